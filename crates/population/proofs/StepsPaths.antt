-- The ways through the code: one law for each, over plain variables. Assumes nothing.
use Rattle.std.specs.Prelude.{None, Option, Some}
use Rattle.std.proofs.Common.{◌≡◌, ℕ, ◌-◌, Bool, true, false, eqb, ltb, List, length, sym, refl, ap, ◌∙◌, subst}
use lib.Ieee.{Float}
use Rattle.float64.specs.Pick.{pick, both}
use Rattle.matrix.specs.declared.Pair.{Pair}
use Rattle.work.specs.Work.{is_same_grid}
use Rattle.cache.specs.Cache.{Cache}
use Rattle.machine.specs.Machine.{loop}
use Rattle.mode.specs.declared.population_focei.Search.{Search}
use Rattle.mode_2d.specs.declared.population_focei_2d.Search2.{Search2}
use Rattle.search.specs.Subjects as B
use Rattle.search.specs.declared.Tally.{Tally}
use Rattle.search.specs.declared.Fit.{Fit}
use Rattle.search.specs.declared.Mode.{Mode}
use Rattle.search.specs.declared.Progress.{Progress}
use Rattle.search.specs.declared.SubjectSearch.TheVariants.{One, Two}
use Rattle.search.specs.declared.Halted.{Halted}
use Rattle.population.specs.Kept.{words}
use Rattle.population.specs.Population.{rows_of, Worked, worked, next_subject, Ended, ended, closing, at_mode, moved, turn, spent, whole, ran, raised, Turned}
use Rattle.population.specs.Through.{as_with, through_from, taken}
use Rattle.population.specs.declared.kept_points.Reached.{Reached}
use Rattle.population.specs.Steps.{whole_from, unkept, cleared}
use Rattle.population.proofs.Loops.{loop_spent, loop_on, loop_halt}
use Rattle.population.proofs.Passing.{unkept_served, same_loop, ends_from}
use Rattle.std.specs.declared.ops.ControlFlow.TheVariants.{Break, Continue}
use Rattle.population.specs.declared.kept_points.Evaluated.{Evaluated}
use Rattle.mode.specs.declared.Request.{Request}
use Rattle.mode.specs.declared.Request.TheVariants as Wants

-- ---- a subject begins with a search of the objective's effects
first_by : (b : Bool) (x : Search) (y : Search2) → let s = pick b (Two y) (One x) in s ≡ pick b (Two (B.two_of s)) (One (B.one_of s))
unfolding pick
first_by true x y = refl
first_by false x y = refl

abbrev pub own : Fit → Progress → Progress
own fit p = B.with_search p (as_with fit.effects p.search)

pub begun_own : (fit : Fit) (effects subject first : ℕ) (start : Pair) (ofv squares : Float) → fit.effects ≡ effects
    → let p = B.begin_subject effects subject first start ofv squares in p ≡ own fit p
unfolding as_with B.begin_subject B.with_search B.first_search
begun_own fit effects subject first start ofv squares e =
    ap (B.with_search (B.begin_subject effects subject first start ofv squares)) (first_by (eqb effects 2) _ _ ∙ ap (λ (n : ℕ). as_with n (B.first_search effects)) (sym e))

-- ---- a turn goes on only where another subject begins, and then no reply is awaited, and the search is one of the objective's
module _ (fit : Fit) (counts : List ℕ) (progress : Progress) (tally : Tally) (work warm results : List ℕ) where
  Begins : Turned → Type 0
  Begins (Continue p) = p ≡ own fit p
  Begins (Break h) = h ≡ h

  next_begins : (mode : Mode) (rows : ℕ) (stored : List ℕ) → Begins (next_subject fit counts progress tally mode rows stored work).value
  unfolding Begins next_subject
  next_begins mode rows stored =
      both (λ (z : Worked Turned). Begins z.value) (ltb (raised progress.subject 1) (length counts)) (begun_own fit _ _ _ _ _ _ refl) refl

  closing_begins : (rows : ℕ) (c : Option Mode) → Begins (closing fit counts progress tally rows work warm results c).turned
  unfolding Begins closing
  closing_begins rows None = refl
  closing_begins rows (Some mode) = both (λ (e : Ended). Begins e.turned) (is_same_grid work rows) (next_begins mode rows _) refl

  begins : (x : Request Pair) → Begins (cleared (unkept fit counts progress tally work warm results x)).turned
  unfolding Begins cleared unkept at_mode
  begins (Wants.Point eta) = refl
  begins Wants.Mode = closing_begins (rows_of counts progress.subject) (B.closed_by fit progress (rows_of counts progress.subject))
  begins (Wants.Refused number) = refl

  on_begins : (x : Request Pair) {t : Turned} {w a r : List ℕ} {next : Progress} → ended t w a r ≡ cleared (unkept fit counts progress tally work warm results x) → t ≡ Continue next → next ≡ own fit next
  unfolding Begins
  on_begins x e q = subst Begins (sym (ap (λ (y : Ended). y.turned) e) ∙ q) (begins x)

-- ---- the loop, with n requests left; x is what `through_kept` answered, v the work words that it left
module _ (fit : Fit) (counts : List ℕ) (hand : Option Evaluated) (progress : Progress) (tally : Tally) (kept : Cache) (work warm results : List ℕ) (n : ℕ) (x : Reached) {v : List ℕ}
    (ex : worked x v ≡ through_from fit (rows_of counts progress.subject) kept n hand progress work) where
  pub requests_spent : x.left ≡ 0 → ran (record { progress = x.progress; tally = tally; step = spent }) kept v warm results ≡ loop (turn words fit counts) spent n
      (whole_from fit counts hand progress tally kept work warm results)
  requests_spent h = loop_spent (turn words fit counts) spent (whole x.progress tally kept v warm results) x.left h ∙ same_loop fit counts tally kept warm results n hand progress work ex

  -- t is what `turn` answered, w, a and r the words that it left
  module _ {t : Turned} {w a r : List ℕ} (h : x.left ≡ 0 → ⊥) (e : ended t w a r ≡ cleared (unkept fit counts x.progress tally v warm results x.wanted)) where
    moves : {variant : Turned} → t ≡ variant → moved words tally kept w a r variant ≡ turn words fit counts (whole x.progress tally kept v warm results)
    unfolding turn
    moves q =
        let ends = ends_from fit kept (rows_of counts progress.subject) n hand progress work ex in
        ap (moved words tally kept w a r) (sym q)
        ∙ ap (λ (y : Ended). moved words tally kept y.work y.warm y.results y.turned) (e ∙ unkept_served fit counts tally kept x.progress v warm results ends.wants (ends.unkept h))

    pub requests_on : {next : Progress} → t ≡ Continue next
        → loop (turn words fit counts) spent (x.left - 1) (whole_from fit counts None next tally kept w a r) ≡ loop (turn words fit counts) spent n
        (whole_from fit counts hand progress tally kept work warm results)
    unfolding moved taken
    requests_on q =
        ap (λ (p : Progress). loop (turn words fit counts) spent (x.left - 1) (whole p tally kept w a r)) (sym (on_begins fit counts x.progress tally v warm results x.wanted e q))
        ∙ loop_on (turn words fit counts) spent (whole x.progress tally kept v warm results) x.left (moves q) h
        ∙ same_loop fit counts tally kept warm results n hand progress work ex

    pub requests_halt : {halted : Halted} → t ≡ Break halted → ran halted kept w a r ≡ loop (turn words fit counts) spent n (whole_from fit counts hand progress tally kept work warm results)
    unfolding moved
    requests_halt q =
        loop_halt (turn words fit counts) spent (whole x.progress tally kept v warm results) x.left (moves q) h
        ∙ same_loop fit counts tally kept warm results n hand progress work ex
