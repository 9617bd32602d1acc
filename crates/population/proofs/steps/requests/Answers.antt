-- `requests` meets its contract: each turn and each exit by its law. Assumes nothing.
use Rattle.std.proofs.Common.{refl, ◌∙◌, arith}
use Rattle.population.specs.Kept.{cache_of}
use Rattle.population.proofs.Passing.{ends_from}
use Rattle.population.proofs.StepsPaths.{requests_spent, requests_on, requests_halt}
use Rattle.population.proofs.steps.requests.Goals as goal

pub requests-init : goal.requests-init
requests-init c = (refl, refl, refl, refl)

pub overflow_sub-left : goal.overflow_sub-left
overflow_sub-left c = omega (arith, c.if-reached-eq0.false)

pub requests-smaller : goal.requests-smaller
requests-smaller c =
    let ends = ends_from _ _ _ _ _ _ _ c.through_kept-reached.ensures in
    omega (arith, ends.within, c.if-reached-eq0.false)

pub requests-preserved : goal.requests-preserved
requests-preserved c =
    let so_far = c.requests.invariant in (
      requests_on _ _ _ _ _ (cache_of c.args.cache.now c.args.order) _ _ _ _ _ c.through_kept-reached.ensures c.if-reached-eq0.false c.turn.ensures
          c.in-Continue.is ∙ so_far.0,
      c.turn.auto.work ∙ c.through_kept-reached.auto.work ∙ so_far.1,
      c.turn.auto.warm ∙ so_far.2,
      c.turn.auto.results ∙ so_far.3,
    )

pub shape_of-work-then-reached-eq0 : goal.shape_of-work-then-reached-eq0
shape_of-work-then-reached-eq0 c = c.through_kept-reached.auto.work ∙ c.requests.invariant.1

pub shape_of-warm-then-reached-eq0 : goal.shape_of-warm-then-reached-eq0
shape_of-warm-then-reached-eq0 c = c.requests.invariant.2

pub shape_of-results-then-reached-eq0 : goal.shape_of-results-then-reached-eq0
shape_of-results-then-reached-eq0 c = c.requests.invariant.3

pub returns-then-reached-eq0 : goal.returns-then-reached-eq0
returns-then-reached-eq0 c = requests_spent _ _ _ _ _ _ _ _ _ _ _ c.through_kept-reached.ensures c.if-reached-eq0.true ∙ c.requests.invariant.0

pub shape_of-work-in-Break : goal.shape_of-work-in-Break
shape_of-work-in-Break c = c.turn.auto.work ∙ c.through_kept-reached.auto.work ∙ c.requests.invariant.1

pub shape_of-warm-in-Break : goal.shape_of-warm-in-Break
shape_of-warm-in-Break c = c.turn.auto.warm ∙ c.requests.invariant.2

pub shape_of-results-in-Break : goal.shape_of-results-in-Break
shape_of-results-in-Break c = c.turn.auto.results ∙ c.requests.invariant.3

pub returns-in-Break : goal.returns-in-Break
returns-in-Break c =
    requests_halt _ _ _ _ _ (cache_of c.args.cache.now c.args.order) _ _ _ _ _ c.through_kept-reached.ensures c.if-reached-eq0.false c.turn.ensures
    c.in-Break.is ∙ c.requests.invariant.0
