-- `through_kept_by` meets its contract: each turn and the exit by its law. Assumes nothing.
use Rattle.std.proofs.Common.{refl, ap, ◌∙◌, arith}
use Rattle.search.specs.Subjects.{with_search}
use Rattle.population.proofs.KeptPointsPaths.{one_left, takes_on, wants_on, stops, goes_on, from_own}
use Rattle.population.proofs.kept_points.through_kept_by.Goals as goal

pub kept-init : goal.kept-init
kept-init g c = (refl, refl)

pub overflow_sub-left : goal.overflow_sub-left
overflow_sub-left g c =
    one_left _ _ _ _ _ c.is_over-over.ensures c.eta_of-at.ensures c.kept_at.ensures
    c.in-Some.is

pub kept-smaller : goal.kept-smaller
kept-smaller g c =
    let h = one_left _ _ _ _ _ c.is_over-over.ensures
    c.eta_of-at.ensures c.kept_at.ensures
    c.in-Some.is in omega arith

pub kept-preserved : goal.kept-preserved
unfolding with_search
kept-preserved g c =
    let alike = g.S.Searching.alike in
    let taken = takes_on alike c.args.fit c.args.rows c.args.start c.requires _ _ _ c.take-search.ensures in
    let wanted = wants_on alike c.args.fit c.args.rows c.args.start c.requires _ c.wanted-wanted.ensures in (
      goes_on _ _ _ _ _ _ _ taken wanted c.is_over-over.ensures
          c.eta_of-at.ensures c.kept_at.ensures
          c.in-Some.is c.recall_rows.ensures c.recall.ensures ∙ c.kept.invariant.0,
      c.recall_rows.auto.work ∙ c.take-search.auto.work ∙ c.kept.invariant.1,
    )

pub shape_of-work : goal.shape_of-work
shape_of-work g c = c.take-search.auto.work ∙ c.kept.invariant.1

pub returns : goal.returns
unfolding with_search
returns g c =
    let alike = g.S.Searching.alike in
    let taken = takes_on alike c.args.fit c.args.rows c.args.start c.requires _ _ _ c.take-search.ensures in
    let wanted = wants_on alike c.args.fit c.args.rows c.args.start c.requires _ c.wanted-wanted.ensures in
    stops _ _ _ _ _ _ _ taken wanted c.is_over-over.ensures c.eta_of-at.ensures c.kept_at.ensures
    (c.with_search.ensures ∙ ap (with_search c.args.start) c.among.ensures) c.in-None.is ∙
    c.kept.invariant.0 ∙ from_own alike c.args.fit c.args.rows c.args.start c.requires _ _ _ _ c.own-search.ensures
