-- An evaluation's sums are floats of the format, so that their bits tell them, and it keeps the number of work words. Assumes nothing.
use Rattle.std.specs.Prelude.{Err, None, Ok, Option, Some}
use mathlib.Core.Path.{◌≡◌, refl, subst, ◌∙◌}
use mathlib.Core.Bool.{false}
use mathlib.Core.List.{List, [], ◌∷◌}
use Prim.Native.Nat.{ℕ, ◌+◌, ◌*◌}
use native.Mathlib.Omega.{arith}
use lib.ListN.{set, length, length-set}
use lib.Ieee.{Float, binary64}
use lib.Ieee.Bits.{of_bits-fits, of_bits-to_bits}
use lib.Ieee.Fits.{add-fits}
use Rattle.float64.specs.Answer.{Answer, given, refused, through}
use Rattle.float64.specs.Pick.{both, cases}
use Rattle.likelihood.specs.Row2.{add_nll, add_score, add_information}
use Rattle.likelihood.specs.declared.population_focei.Observation.{Observation}
use Rattle.likelihood.specs.declared.population_focei.RowTerms.{RowTerms}
use Rattle.likelihood.specs.declared.population_focei_2d.Row2.{Row2}
use Rattle.subject.specs.Claim.{reply_rows}
use Rattle.subject.specs.Reply.{written}
use Rattle.subject.specs.Subject.{begin, at_observation, with_terms, add_row, with_row, add_row2, add_row_at, Evaluating, evaluating, add_at, add_to, add_after, add_observation, add_observations, has_nonfinite_sum, Evaluation}
use Rattle.subject.specs.Subject.{finish}
use Rattle.subject.specs.declared.Trial.{Trial}
use Rattle.subject.specs.declared.Sums.{Sums}
use Rattle.subject.specs.declared.PredictionRow.{PredictionRow}
use Rattle.cache.specs.Cache.{row_words}
use Rattle.search.specs.Subjects.{sums_of, terms_of}
use Rattle.state_words.proofs.Back.{FitsMatrix}
use Rattle.session_theorems.proofs.Fitting.{Fits}
use Rattle.session_theorems.proofs.Lengths.{AsLong}
use Rattle.subject.specs.declared.EvaluationError.TheVariants.{Refused, RefusedAt}

pub record FitsSums (s : Sums) : Type 0 where
  pub nll : Fits s.nll
  pub first : Fits s.score.first
  pub second : Fits s.score.second
  pub information : FitsMatrix s.information

unfoldable FitsRunning : Evaluation → Type 0
FitsRunning (Ok s) = FitsSums s
FitsRunning (Err (Refused n)) = Unit
FitsRunning (Err (RefusedAt n i)) = Unit

-- ---- a row
row_fits : {X : Type 0} (n : ℕ) (f : X → Sums) → ((x : X) → FitsSums (f x)) → (a : Answer X) → FitsRunning (at_observation n (through f a))
unfolding at_observation through FitsRunning
row_fits n f h (given x) = h x
row_fits n f h (refused k) = tt

terms_fit : (s : Sums) → FitsSums s → (t : RowTerms) → FitsSums (with_terms s t)
unfolding with_terms
terms_fit s f t =
    let i = f.information in
    record {
      nll = add-fits binary64 _ _;
      first = add-fits binary64 _ _;
      second = f.second;
      information = record { m00 = add-fits binary64 _ _; m01 = i.m01; m10 = i.m10; m11 = i.m11 };
    }

row2_fits : (s : Sums) (r : Row2) (f-eta : List Float) → FitsSums (with_row s r f-eta)
unfolding with_row add_nll add_score add_information
row2_fits s r f-eta = record {
  nll = add-fits binary64 _ _;
  first = add-fits binary64 _ _;
  second = add-fits binary64 _ _;
  information = record { m00 = add-fits binary64 _ _; m01 = add-fits binary64 _ _; m10 = add-fits binary64 _ _; m11 = add-fits binary64 _ _ };
}

added_fits : (s : Sums) → FitsSums s → (o : Observation) (trial : Trial) (reply : List ℕ) (p : ℕ) → FitsRunning (add_row_at s o trial reply p)
unfolding add_row_at add_row add_row2
added_fits s f o trial reply p = both FitsRunning _ (row_fits _ _ (λ x. row2_fits s _ _) _) (row_fits _ (with_terms s) (terms_fit s f) _)

written_length : (block n : ℕ) (row : PredictionRow) (work : List ℕ) → AsLong work (written block n row work)
unfolding written
written_length block n row work =
    let at = block + row_words * n in
    let one = set work at row.prediction in
    let two = set one (at + 1) row.time in
    length-set two (at + 2) row.side ∙ length-set one (at + 1) row.time ∙ length-set work at row.prediction

-- ---- the observations
record Kept (x y : Evaluating) : Type 0 where
  fits : FitsRunning y.evaluation
  long : AsLong x.work y.work

module _ (trial : Trial) (reply : List ℕ) where
  at_row : (s : Sums) → FitsSums s → (o : Observation) (work : List ℕ) (r : Option ℕ) → Kept (evaluating (Ok s) work) (add_at s o trial reply work r)
  unfolding add_at FitsRunning
  at_row s f o work (Some p) = record { fits = added_fits s f o trial reply p; long = written_length _ _ _ work }
  at_row s f o work None = record { fits = tt; long = refl }

  one_more : (o : Observation) (work : List ℕ) (e : Evaluation) → FitsRunning e → Kept (evaluating e work) (add_observation trial reply o (evaluating e work))
  unfolding add_observation add_after add_to FitsRunning
  one_more o work (Ok s) f = at_row s f o work _
  one_more o work (Err (Refused n)) f = record { fits = tt; long = refl }
  one_more o work (Err (RefusedAt n i)) f = record { fits = tt; long = refl }

  all : (os : List Observation) (x : Evaluating) → FitsRunning x.evaluation → Kept x (add_observations trial reply os x)
  all [] x f = record { fits = f; long = refl }
  all (o ∷ os) x f =
      let a = one_more o x.work x.evaluation f in
      let b = all os (add_observation trial reply o x) a.fits in
      record { fits = b.fits; long = b.long ∙ a.long }

begun_fits : (reply : List ℕ) (width effects budget : ℕ) → FitsRunning (begin reply width effects budget)
unfolding begin FitsRunning
begun_fits reply width effects budget =
    let z = of_bits-fits binary64 0 in
    both FitsRunning _ (both FitsRunning _ tt (record { nll = z; first = z; second = z; information = record { m00 = z; m01 = z; m10 = z; m11 = z } })) tt

module _ (trial : Trial) (reply : List ℕ) (width effects budget : ℕ) (os : List Observation) (work : List ℕ) where
  abbrev end : Evaluating
  end = add_observations trial reply os (evaluating (begin reply width effects budget) work)

  kept : Kept (evaluating (begin reply width effects budget) work) end
  kept = all trial reply os (evaluating (begin reply width effects budget) work) (begun_fits reply width effects budget)

  pub work_length : AsLong work end.work
  work_length = kept.long

  finished_fits : (e : Evaluation) → FitsRunning e → (s : Sums) → finish e ≡ Ok s → FitsSums s
  unfolding finish FitsRunning
  finished_fits (Ok t) f s q = cases (λ (z : Evaluation). z ≡ Ok s → FitsSums s) (has_nonfinite_sum t) (λ h w. absurd (let z : ◌≡◌ {A = ℕ} 0 1 = cc in omega arith))
      (λ h w. let d : t ≡ s = cc in subst FitsSums d f) q
  finished_fits (Err (Refused n)) f s q = absurd (let z : ◌≡◌ {A = ℕ} 0 1 = cc in omega arith)
  finished_fits (Err (RefusedAt n i)) f s q = absurd (let z : ◌≡◌ {A = ℕ} 0 1 = cc in omega arith)

  pub sums_fit : (s : Sums) → finish end.evaluation ≡ Ok s → FitsSums s
  sums_fit s q = finished_fits end.evaluation kept.fits s q

-- ---- as words, and back
-- all of them but the number of the next observation
pub terms_finite : (s : Sums) → FitsSums s → has_nonfinite_sum s ≡ false → has_nonfinite_sum (sums_of (terms_of s)) ≡ false
unfolding has_nonfinite_sum sums_of terms_of
terms_finite s f h = simp (
  of_bits-to_bits binary64 s.nll f.nll,
  of_bits-to_bits binary64 s.score.first f.first,
  of_bits-to_bits binary64 s.score.second f.second,
  of_bits-to_bits binary64 s.information.m00 f.information.m00,
  of_bits-to_bits binary64 s.information.m01 f.information.m01,
  of_bits-to_bits binary64 s.information.m10 f.information.m10,
  of_bits-to_bits binary64 s.information.m11 f.information.m11,
) h

-- three words for each observation
pub reply_length : (width effects : ℕ) (reply : List ℕ) (os : List Observation) → length (reply_rows width effects reply os) ≡ row_words * length os
unfolding reply_rows
reply_length width effects reply [] = refl
reply_length width effects reply (o ∷ os) = let e = reply_length width effects reply os in omega (arith, e)
