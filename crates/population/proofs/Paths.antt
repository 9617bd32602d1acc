-- The ways through the code: one law for each, over plain variables. Assumes nothing.
use Rattle.std.specs.Prelude.{None, Option, Some}
use Rattle.std.proofs.Common.{◌≡◌, ℕ, ◌≤◌, Bool, true, false, ltb, List, length, get_or, sym, ap, ◌∙◌, subst, arith, ltb-true}
use Rattle.float64.specs.Pick.{yes_of, no_of, cases}
use Rattle.work.specs.Work.{most_rows, is_same_grid, result_written, fitted_written}
use Rattle.search.specs.Subjects as B
use Rattle.search.specs.declared.Tally.{Tally}
use Rattle.search.specs.declared.Fit.{Fit}
use Rattle.search.specs.declared.Progress.{Progress}
use Rattle.search.specs.declared.Place.TheVariants.{Subject}
use Rattle.search.specs.declared.Halted.{Halted}
use Rattle.search.specs.declared.Mode.{Mode}
use Rattle.population.specs.Population.{rows_of, warm_stored, worked, next_subject, Ended, ended, closing, at_mode, Turned}
use Rattle.std.specs.declared.ops.ControlFlow.TheVariants.{Break}

-- ---- a subject's number of observations
module _ (counts : List ℕ) (subject : ℕ) where
  -- it is at most the domain's largest; n is what `rows_of` answered
  pub rows_at_most : {n : ℕ} → n ≡ rows_of counts subject → n ≤ most_rows
  unfolding rows_of
  rows_at_most e =
      let few : rows_of counts subject ≤ most_rows = cases (λ (x : ℕ). x ≤ most_rows) (ltb (get_or counts subject 0) most_rows) (λ h. let l = ltb-true (get_or counts subject 0) most_rows h in omega arith)
      (λ h. omega arith) in
      subst (λ (x : ℕ). x ≤ most_rows) (sym e) few

-- ---- a mode; x is what `closed_by` answered
module _ (fit : Fit) (counts : List ℕ) (progress : Progress) (tally : Tally) (work warm results : List ℕ) {rows : ℕ} {x : Option Mode} (er : rows ≡ rows_of counts progress.subject)
    (ex : x ≡ B.closed_by fit progress rows) where
  closed_as : {variant : Option Mode} {z : Ended} → x ≡ variant → z ≡ closing fit counts progress tally rows work warm results variant → z ≡ at_mode fit counts progress tally work warm results
  unfolding at_mode
  closed_as t q = q ∙ (λ i. closing fit counts progress tally (er i) work warm results ((sym t ∙ ex ∙ ap (B.closed_by fit progress) er) i))

  pub not_positive : {h : Halted} → x ≡ None → h ≡ B.refused_by progress tally (B.refusal 16 (Subject progress.subject)) → ended (Break h) work warm results ≡ at_mode fit counts progress tally work warm
      results
  unfolding closing
  not_positive t q = closed_as t (ap (λ (h : Halted). ended (Break h) work warm results) q)

  -- stored is the warm starts with this one, b what `is_same_grid` answered
  module _ {mode : Mode} {stored : List ℕ} {b : Bool} (t : x ≡ Some mode) (es : stored ≡ warm_stored fit.effects progress.subject mode.eta warm) (eb : b ≡ is_same_grid work rows) where
    pub other_grid : {h : Halted} → b ≡ false → h ≡ B.refused_by progress tally (B.refusal 17 (Subject progress.subject)) → ended (Break h) work stored results ≡ at_mode fit counts progress tally work warm
        results
    unfolding closing
    other_grid u q = closed_as t (no_of _ eb u (λ i. ended (Break (q i)) work (es i) results))

    -- r1 and r2 are the results after each store
    pub same_grid : {r1 r2 w : List ℕ} {next : Turned} → b ≡ true → r1 ≡ result_written progress.subject mode.eta mode.nll results → r2 ≡ fitted_written (length counts) progress.first work
        rows r1 → worked next w ≡ next_subject fit counts progress tally mode rows stored work → ended next w stored r2 ≡ at_mode fit counts progress tally work warm results
    unfolding closing
    same_grid u e1 e2 q =
        let n = q ∙ ap (λ (s : List ℕ). next_subject fit counts progress tally mode rows s work) es in
        let r = e2 ∙ ap (fitted_written (length counts) progress.first work rows) e1 in
        closed_as t (yes_of _ eb u (λ i. ended (n i).value (n i).work (es i) (r i)))
