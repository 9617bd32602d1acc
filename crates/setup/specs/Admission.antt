-- Document 01's checks 1 to 5.
use Rattle.std.specs.Prelude.{Bool, true, false, List, [], ◌∷◌, ℕ, ◌+◌, ◌-◌, ◌*◌, ltb, eqb, length, Float, ⊤}
use Rattle.std.specs.Prelude.{Option, Some, None, Result, Ok, Err}
use Rattle.std.specs.Float.Ieee.{le, lt, ne}
use Rattle.float64.specs.Arithmetic.{word, edge}
use Rattle.float64.specs.Float64.{nonfinite}
use Rattle.float64.specs.Pick.{pick}
use Rattle.float64.specs.Answer.{Answer, given, refused}
use Rattle.matrix.specs.Matrix.{pair, Inverse, some, none, inverse_positive}
use Rattle.cache.specs.Cache.{kept_words}
use Rattle.work.specs.Work.{most_subjects, most_rows, work_words, result_words, fitted_words}
use Rattle.subject.specs.Observations.{Verdict, verdict as check_verdict, Check}
use Rattle.subject.specs.Observations.Verdict.{passes, fails}
use Rattle.setup.specs.declared.Setup.{Setup}
use Rattle.setup.specs.declared.Parameters.{Parameters}
use Rattle.setup.specs.declared.Lent.{Lent}
use Rattle.setup.specs.declared.AdmissionError.{AdmissionError}
use Rattle.setup.specs.declared.AdmissionError.TheVariants.{Refused, Unsound}
use Rattle.setup.specs.declared.Counts.{Counts}

-- not from low to high
unfoldable pub is_beyond : Float → Float → Float → Bool
is_beyond x low high = pick (le low x) (pick (le x high) false true) true

-- ---- 1: effects 1 or 2; subjects 1 to 4,096; observations at least 1 for each, at most 100,000 in all; the counts add up to the records
-- lent

abbrev pub larger : ℕ → ℕ → ℕ
larger a b = pick (ltb a b) b a

-- the sum and the largest of the counts
pub record Totals : Type 0 where
  pub total : ℕ
  pub largest : ℕ

-- counts within the domain
abbrev pub within : ℕ → ℕ → Option Counts
within total largest = Some (record { total = total; largest = largest })

-- counts outside the domain are refused with 1
abbrev pub totals : Option Counts → Answer Totals
totals (Some n) = given (record { total = n.total; largest = n.largest })
totals None = refused 1

unfoldable pub count_from : ℕ → ℕ → List ℕ → Option Counts
count_from total largest [] = within total largest
count_from total largest (count ∷ rest) =
    pick (eqb count 0) None
    (pick (ltb (most_rows - total) count) None
    (count_from (total + count) (larger largest count) rest))

unfoldable pub count_observations : List ℕ → Option Counts
count_observations counts = count_from 0 0 counts

unfoldable pub is_cohort : ℕ → ℕ → ℕ → ℕ → Bool
is_cohort effects subjects total observations =
    pick (eqb effects 0) false
    (pick (ltb 2 effects) false
    (pick (eqb subjects 0) false
    (pick (ltb most_subjects subjects) false
    (eqb total observations))))

-- ---- 2: each diagonal entry from 2^-20 to 2^20; with two effects symmetric, with an inverse

unfoldable pub is_no_variance : Float → Bool
is_no_variance omega = is_beyond omega (word 0x3eb0_0000_0000_0000) (word 0x4130_0000_0000_0000)

abbrev pub omega_of : Setup → List (List Float)
omega_of setup = pair (pair setup.omega00 setup.omega01) (pair setup.omega10 setup.omega11)

abbrev pub is_none : Inverse → Bool
is_none (some m det) = false
is_none none = true

unfoldable pub is_no_omega : Setup → Bool
is_no_omega setup =
    pick (is_no_variance setup.omega00) true
    (pick (eqb setup.effects 1) false
    (pick (is_no_variance setup.omega11) true
    (pick (ne setup.omega01 setup.omega10) true
    (is_none (inverse_positive (omega_of setup))))))

-- ---- 3: eta_bound 2^-10 to 16; gradient_tolerance finite, above 0; width 1 to 64; K 1 to 100,000; the override finite, not below 0,
-- none with two effects

unfoldable pub is_no_override : ℕ → Option Float → Bool
is_no_override effects None = false
is_no_override effects (Some additive) = pick (eqb effects 2) true (pick (nonfinite additive) true (lt additive (word 0)))

unfoldable pub is_no_tolerance : Float → Bool
is_no_tolerance tolerance = pick (nonfinite tolerance) true (le tolerance (word 0))

unfoldable pub is_no_shape : Setup → Bool
is_no_shape setup =
    pick (is_beyond setup.eta_bound (word 0x3f50_0000_0000_0000) edge) true
    (pick (is_no_tolerance setup.gradient_tolerance) true
    (pick (eqb setup.width 0) true
    (pick (ltb 64 setup.width) true
    (pick (eqb setup.k 0) true
    (pick (ltb most_rows setup.k) true
    (is_no_override setup.effects setup.additive_sd))))))

-- ---- 5: work words 12 times the largest subject's observations, kept words 24 K, warm words the effects of each subject, results 2 for
-- each observation and 3 for each subject

unfoldable pub is_short : Setup → ℕ → ℕ → ℕ → Lent → Bool
is_short setup subjects total largest lent =
    pick (ltb lent.work (work_words * largest)) true
    (pick (ltb lent.cache (kept_words * setup.k)) true
    (pick (ltb lent.warm (setup.effects * subjects)) true
    (ltb lent.results (fitted_words * total + result_words * subjects))))

-- ---- in their order; 4 is what the check of the observations found

-- accepted, or why not
abbrev pub Admission : Type 0
Admission = Result ⊤ AdmissionError

-- what an admission says: 4 is what the check of the observations says, the others carry no place
abbrev pub verdict : Admission → Verdict
verdict (Ok tt) = passes
verdict (Err (Refused number)) = fails number
verdict (Err (Unsound place)) = check_verdict (Err place)

unfoldable pub roomy : Setup → ℕ → ℕ → ℕ → Lent → Check → Admission
roomy setup subjects total largest lent (Err place) = Err (Unsound place)
roomy setup subjects total largest lent (Ok place) = pick (is_short setup subjects total largest lent) (Err (Refused 5)) (Ok tt)

unfoldable pub admitted : Setup → ℕ → ℕ → ℕ → Lent → Check → Admission
admitted setup subjects total largest lent check =
    pick (is_no_omega setup) (Err (Refused 2))
    (pick (is_no_shape setup) (Err (Refused 3))
    (roomy setup subjects total largest lent check))

abbrev pub checks_with : Setup → ℕ → Lent → Check → Answer Totals → Admission
checks_with setup subjects lent check (given t) =
    pick (is_cohort setup.effects subjects t.total lent.observations)
    (admitted setup subjects t.total t.largest lent check) (Err (Refused 1))
checks_with setup subjects lent check (refused number) = Err (Refused number)

unfoldable pub checks_of : Setup → ℕ → Lent → Check → Option Counts → Admission
checks_of setup subjects lent check counts = checks_with setup subjects lent check (totals counts)

unfoldable pub checks : Setup → List ℕ → Lent → Check → Admission
checks setup counts lent check = checks_of setup (length counts) lent check (count_observations counts)

-- ---- an objective's own omega and additive deviation

unfoldable pub with_parameters : Setup → Parameters → Setup
with_parameters setup parameters = record {
  effects = setup.effects;
  omega00 = pick (eqb setup.effects 1) parameters.omega setup.omega00;
  omega01 = setup.omega01;
  omega10 = setup.omega10;
  omega11 = setup.omega11;
  eta_bound = setup.eta_bound;
  gradient_tolerance = setup.gradient_tolerance;
  width = setup.width;
  k = setup.k;
  additive_sd = parameters.additive_sd;
  output_budget = setup.output_budget;
  max_evaluations = setup.max_evaluations;
}
