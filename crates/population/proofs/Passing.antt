-- A kept evaluation is a turn that goes on: so the loop from where a search has come to through kept evaluations is the loop from where it was. Assumes nothing.
use Rattle.std.specs.Prelude.{None, Option, Some}
use Rattle.std.proofs.Common.{◌≡◌, ℕ, zero, suc, ◌≤◌, eqb, List, sym, refl, ap, ◌∙◌, subst, sub-one, arith}
use Rattle.float64.specs.Pick.{pick, both}
use Rattle.matrix.specs.declared.Pair.{Pair}
use Rattle.subject.specs.declared.Sums.{Sums}
use Rattle.work.specs.Work.{block}
use Rattle.cache.specs.Cache.{Cache, find}
use Rattle.machine.specs.Machine.{Moved, on, Ran, loop}
use Rattle.search.specs.Subjects as B
use Rattle.search.specs.declared.Advanced.{Advanced}
use Rattle.search.specs.declared.Tally.{Tally}
use Rattle.search.specs.declared.Fit.{Fit}
use Rattle.search.specs.declared.Progress.{Progress}
use Rattle.search.specs.declared.Step.{Step}
use Rattle.population.specs.Kept.{recall_at, words}
use Rattle.population.specs.Population.{rows_of, Worked, take, answered, at_point, Ended, ended, served_by, served, is_over, turned, Whole, moved, turn, spent, whole}
use Rattle.population.specs.Through.{KeptPoint, kept_in, not_kept, kept_at, kept_point, recalled, taken, passed, through, through_from}
use Rattle.population.specs.declared.kept_points.Reached.{Reached}
use Rattle.population.specs.Steps.{whole_from, unkept, cleared}
use Rattle.population.proofs.Loops.{loop_on}
use Rattle.population.specs.declared.kept_points.Evaluated.{Evaluated}
use Rattle.std.specs.declared.ops.ControlFlow.TheVariants.{Continue}
use Rattle.mode.specs.declared.Request.{Request}
use Rattle.mode.specs.declared.Request.TheVariants as Wants

-- ---- the subject stays the same
take_subject : (fit : Fit) (rows : ℕ) (p : Progress) (eta : Pair) (sums : Sums) (work : List ℕ) → p.subject ≡ (take fit rows p eta sums work).value.subject
unfolding take B.advance_by B.advance1 B.advance2 B.with_search
take_subject fit rows p eta sums work = both (λ (a : Advanced). p.subject ≡ a.progress.subject) (eqb fit.effects 2) refl refl

taken_subject : (fit : Fit) (rows : ℕ) (hand : Option Evaluated) (p : Progress) (work : List ℕ) → p.subject ≡ (taken fit rows hand p work).value.subject
unfolding taken B.with_search
taken_subject fit rows None p work = refl
taken_subject fit rows (Some e) p work = take_subject fit rows p e.eta e.sums work

-- ---- a request, by whether its point is kept; x is what is wanted
abbrev next : Fit → ℕ → Cache → Progress → List ℕ → Pair → ℕ → Worked Progress
next fit rows kept p work eta slot =
    let r = recalled fit.k slot rows kept.words work in
    take fit rows p eta r.value r.work

module _ (fit : Fit) (counts : List ℕ) (tally : Tally) (kept : Cache) (p : Progress) (work warm results : List ℕ) where
  abbrev rows : ℕ
  rows = rows_of counts p.subject

  Serves : Request Pair → KeptPoint → Type 0
  Serves x (kept_in eta slot) =
      ended (Continue (next fit rows kept p work eta slot).value) (next fit rows kept p work eta slot).work warm results ≡ served_by words fit counts p tally kept work warm results x
  Serves x not_kept = unkept fit counts p tally work warm results x ≡ served_by words fit counts p tally kept work warm results x

  FoundServes : Pair → Option ℕ → Type 0
  FoundServes eta f = find kept.words fit.k kept.order (B.key_of fit p.subject eta) ≡ f → Serves (Wants.Point eta) (kept_at eta f)

  answered_by : Pair → Option ℕ → Ended
  answered_by eta f =
      let a = answered fit rows p tally eta work (recall_at kept.words fit.k rows work (block rows 3) f) in
      ended a.value a.work warm results

  found_serves : (eta : Pair) (f : Option ℕ) → FoundServes eta f
  unfolding FoundServes Serves answered_by served_by at_point answered recall_at recalled unkept
  found_serves eta (Some slot) e = ap (answered_by eta) (sym e)
  found_serves eta None e = ap (answered_by eta) (sym e)

  serves : (x : Request Pair) → Serves x (kept_point fit p.subject kept x)
  unfolding kept_point FoundServes Serves served_by unkept
  serves (Wants.Point eta) = found_serves eta _ refl
  serves Wants.Mode = refl
  serves (Wants.Refused number) = refl

  -- nothing is kept of what is wanted
  pub unkept_served : {x : Request Pair} → x ≡ B.wanted_by fit p → kept_point fit p.subject kept x ≡ not_kept → cleared (unkept fit counts p tally work warm results x) ≡ turned words fit counts p tally kept
      work warm results
  unfolding Serves cleared turned served
  unkept_served {x} e t =
      let s : Serves x not_kept = subst (Serves x) t (serves x) in
      ap cleared (s ∙ ap (served_by words fit counts p tally kept work warm results) e)

  -- a kept evaluation
  kept_turns : {eta : Pair} {slot : ℕ} → kept_point fit p.subject kept (B.wanted_by fit p) ≡ kept_in eta slot
      → on (whole (next fit rows kept p work eta slot).value tally kept (next fit rows kept p work eta slot).work warm results) ≡ turn words fit counts (whole p tally kept work warm results)
  unfolding Serves turn turned served moved is_over pick cleared
  kept_turns {eta} {slot} t =
      let s : Serves (B.wanted_by fit p) (kept_in eta slot) = subst (Serves (B.wanted_by fit p)) t (serves (B.wanted_by fit p)) in
      ap (λ (e : Ended). moved words tally kept (cleared e).work e.warm e.results e.turned) s

-- ---- through kept evaluations
module _ (fit : Fit) (counts : List ℕ) (tally : Tally) (kept : Cache) (warm results : List ℕ) (rows : ℕ) where
  abbrev T : Whole words → Moved (Whole words) Step
  T = turn words fit counts

  abbrev From : Worked Reached → Ran (Whole words) Step
  From z = loop T spent z.value.left (whole z.value.progress tally kept z.work warm results)

  abbrev Same : ℕ → Progress → List ℕ → Worked Reached → Type 0
  Same n p w z = rows ≡ rows_of counts p.subject → From z ≡ loop T spent n (whole p tally kept w warm results)

  same_by : (n : ℕ) (p : Progress) (w : List ℕ) → ((q : Progress) (v : List ℕ) → Same n q v (through fit rows kept n q v))
      → (point : KeptPoint) → kept_point fit p.subject kept (B.wanted_by fit p) ≡ point → Same (suc n) p w (passed fit rows kept (suc n) p w (λ q v. through fit rows kept n q v) point)
  unfolding passed
  same_by n p w ih (kept_in eta slot) t er =
      let a = next fit rows kept p w eta slot in
      let r = recalled fit.k slot rows kept.words w in
      ih a.value a.work (er ∙ ap (rows_of counts) (take_subject fit rows p eta r.value r.work))
      ∙ ap (λ (m : ℕ). loop T spent n (whole (next fit m kept p w eta slot).value tally kept (next fit m kept p w eta slot).work warm results)) er
      ∙ rw sub-one at (loop_on T spent (whole p tally kept w warm results) (suc n) (kept_turns fit counts tally kept p w warm results t) (λ e. omega (arith, e)))
  same_by n p w ih not_kept t er = refl

  same : (n : ℕ) (p : Progress) (w : List ℕ) → Same n p w (through fit rows kept n p w)
  unfolding through
  same zero p w er = refl
  same (suc n) p w er = same_by n p w (same n) _ refl er

-- z is what `through_kept` answered, with the work words that it left
pub same_loop : (fit : Fit) (counts : List ℕ) (tally : Tally) (kept : Cache) (warm results : List ℕ) (n : ℕ) (hand : Option Evaluated) (p : Progress) (work : List ℕ) {z : Worked Reached} → z ≡ through_from fit
    (rows_of counts p.subject) kept n hand p work
    → loop (turn words fit counts) spent z.value.left (whole z.value.progress tally kept z.work warm results) ≡ loop (turn words fit counts) spent n
    (whole_from fit counts hand p tally kept work warm results)
unfolding through_from
same_loop fit counts tally kept warm results n hand p work e =
    let rows = rows_of counts p.subject in
    let t = taken fit rows hand p work in
    ap (λ (z : Worked Reached). loop (turn words fit counts) spent z.value.left (whole z.value.progress tally kept z.work warm results)) e
    ∙ same fit counts tally kept warm results rows n t.value t.work (ap (rows_of counts) (taken_subject fit rows hand p work))

-- ---- where it ends: at most n requests are left, and unless none is, nothing is kept of what is wanted
pub record Ends (fit : Fit) (kept : Cache) (n : ℕ) (r : Reached) : Type 0 where
  pub within : r.left ≤ n
  pub wants : r.wanted ≡ B.wanted_by fit r.progress
  pub unkept : (r.left ≡ 0 → ⊥) → kept_point fit r.progress.subject kept r.wanted ≡ not_kept

module _ (fit : Fit) (kept : Cache) (rows : ℕ) where
  ends_by : (n : ℕ) (p : Progress) (w : List ℕ) → ((q : Progress) (v : List ℕ) → Ends fit kept n (through fit rows kept n q v).value) → (point : KeptPoint) → kept_point fit p.subject kept
      (B.wanted_by fit p) ≡ point
      → Ends fit kept (suc n) (passed fit rows kept (suc n) p w (λ q v. through fit rows kept n q v) point).value
  unfolding passed
  ends_by n p w ih (kept_in eta slot) t =
      let a = next fit rows kept p w eta slot in
      let e = ih a.value a.work in
      record { within = omega (arith, e.within); wants = e.wants; unkept = e.unkept }
  ends_by n p w ih not_kept t = record { within = omega arith; wants = refl; unkept = λ _. t }

  ends : (n : ℕ) (p : Progress) (w : List ℕ) → Ends fit kept n (through fit rows kept n p w).value
  unfolding through
  ends zero p w = record { within = omega arith; wants = refl; unkept = λ h. absurd (h refl) }
  ends (suc n) p w = ends_by n p w (ends n) _ refl

pub ends_from : (fit : Fit) (kept : Cache) (rows n : ℕ) (hand : Option Evaluated) (p : Progress) (work : List ℕ) {z : Worked Reached} → z ≡ through_from fit rows kept n hand p work → Ends fit kept n z.value
unfolding through_from
ends_from fit kept rows n hand p work e =
    let t = taken fit rows hand p work in
    subst (λ (z : Worked Reached). Ends fit kept n z.value) (sym e) (ends fit kept rows n t.value t.work)
