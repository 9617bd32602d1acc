-- The ways through the code: one law for each, over plain variables. Assumes nothing.
use Rattle.std.specs.Prelude.{Err, None, Ok, Option, Result, Some, IsErrAnd, ok_or}
use Rattle.std.proofs.Common.{◌≡◌, ℕ, ◌+◌, ◌*◌, ◌/◌, ◌%◌, ◌<◌, ◌≤◌, Bool, true, false, ltb, List, length, sym, refl, ap, ◌∙◌, subst, le_trans, mul-le-mul, mul-le-mul_left, div-mul-le_self, arith, le-ltb, lt-ltb, eq-eqb, ne_eqb}
use Rattle.std.proofs.lemmas.Result.{err_from_is_err_and}
use lib.Ieee.{Float}
use Rattle.float64.specs.Answer.{given}
use Rattle.float64.specs.Arithmetic.{word}
use Rattle.float64.specs.Pick.{pick, yes, no, yes_of, no_of}
use Rattle.matrix.specs.declared.Pair.{Pair}
use Rattle.subject.specs.declared.Sums.{Sums}
use Rattle.subject.specs.Reply.{output_values, row_length, rows}
use Rattle.subject.specs.Subject.{answer, individual, is_no_individual, individual_values, no_sums, begin, has_nonfinite_sum, finish, Evaluation}
use Rattle.subject.specs.declared.EvaluationError.{EvaluationError}
use Rattle.subject.specs.declared.EvaluationError.TheVariants.{Refused}

-- what the exit of a `?` returns
pub passed_on : {T E : Type 0} {x : E} (r : Result T E) → IsErrAnd r (λ e. e ≡ x) → r ≡ Err x
passed_on r h = let p = err_from_is_err_and r h in p.1 ∙ ap Err p.2

-- what `ok_or` makes an error of
pub missing_of : {T E : Type 0} (o : Option T) {d e : E} → ok_or o d ≡ Err e → (o ≡ None) × (d ≡ e)
missing_of None w = (refl, cc)
missing_of (Some x) w = absurd (let z : ◌≡◌ {A = ℕ} 0 1 = cc in omega arith)

-- ---- individual values; x and y are the first and the second, b and d what `is_no_individual` answered of them
module _ (theta eta : Pair) (effects : ℕ) {x : Float} {b : Bool} (ex : x ≡ individual theta.first eta.first) (eb : b ≡ is_no_individual x) where
  first_is : b ≡ is_no_individual (individual theta.first eta.first)
  first_is = eb ∙ ap is_no_individual ex

  pub no_first : b ≡ true → answer None ≡ individual_values theta eta effects
  unfolding answer individual_values
  no_first t = yes_of _ first_is t refl

  module _ (t : b ≡ false) where
    pub one_value : (effects ≡ 2 → ⊥) → answer (Some (record { first = x; second = word 0 })) ≡ individual_values theta eta effects
    unfolding answer individual_values
    one_value h = no_of _ first_is t (no _ (ne_eqb _ _ h) (λ i. given (record { first = ex i; second = word 0 })))

    module _ {y : Float} {d : Bool} (h : effects ≡ 2) (ey : y ≡ individual theta.second eta.second) (ed : d ≡ is_no_individual y) where
      pub no_second : d ≡ true → answer None ≡ individual_values theta eta effects
      unfolding answer individual_values
      no_second u = no_of _ first_is t (yes _ (eq-eqb _ _ h) (yes_of _ (ed ∙ ap is_no_individual ey) u refl))

      pub two_values : d ≡ false → answer (Some (record { first = x; second = y })) ≡ individual_values theta eta effects
      unfolding answer individual_values
      two_values u = no_of _ first_is t (yes _ (eq-eqb _ _ h) (no_of _ (ed ∙ ap is_no_individual ey) u (λ i. given (record { first = ex i; second = ey i }))))

-- ---- the words of a reply
-- the number of a row's values and derivatives is a word, and leaves room for two more
pub values_fit : (width effects : ℕ) → width < 4294967296 → effects < 4294967296 → width * (1 + effects) < 18446744073709551614
values_fit width effects h j =
    let m : width * (1 + effects) ≤ 4294967295 * 4294967296 = mul-le-mul (let x : width ≤ 4294967295 = omega arith in x) (let y : 1 + effects ≤ 4294967296 = omega arith in y) in
    omega arith

-- of n words: whole rows have no more values than words
pub values_within : (n words values : ℕ) → values ≤ words → n / words * values ≤ n
values_within n words values h = le_trans (mul-le-mul_left (n / words) h) (div-mul-le_self n words)

-- ---- an evaluation begins; words is a row's length, values the number of its values and derivatives
module _ (reply : List ℕ) (width effects budget : ℕ) {words : ℕ} (e : words ≡ row_length width effects) where
  pub not_whole : (length reply % words ≡ 0 → ⊥) → Err (Refused 8) ≡ begin reply width effects budget
  unfolding begin
  not_whole h = no _ (ne_eqb _ _ (subst (λ (w : ℕ). length reply % w ≡ 0 → ⊥) e h)) refl

  module _ {values : ℕ} (h : length reply % words ≡ 0) (v : values ≡ output_values width effects) where
    begun : {z : Evaluation} → z ≡ pick (ltb budget (rows reply width effects * output_values width effects)) (Err (Refused 9)) (Ok no_sums) → z ≡ begin reply width effects budget
    unfolding begin
    begun q = yes _ (eq-eqb _ _ (subst (λ (w : ℕ). length reply % w ≡ 0) e h)) q

    outputs : length reply / words * values ≡ rows reply width effects * output_values width effects
    outputs = λ i. length reply / e i * v i

    pub over_budget : budget < length reply / words * values → Err (Refused 9) ≡ begin reply width effects budget
    over_budget l = begun (yes _ (lt-ltb _ _ (subst (λ (n : ℕ). budget < n) outputs l)) refl)

    pub within_budget : length reply / words * values ≤ budget → Ok no_sums ≡ begin reply width effects budget
    within_budget l = begun (no _ (le-ltb _ _ (subst (λ (n : ℕ). n ≤ budget) outputs l)) refl)

-- ---- the end of an evaluation x; b is what `has_nonfinite_sum` answered
module _ {x : Evaluation} where
  module _ {sums : Sums} {b : Bool} (t : x ≡ Ok sums) (e : b ≡ has_nonfinite_sum sums) where
    pub sum_overflows : b ≡ true → Err (Refused 12) ≡ finish x
    unfolding finish
    sum_overflows u = yes_of _ e u refl ∙ ap finish (sym t)

    pub sums_stand : b ≡ false → Ok sums ≡ finish x
    unfolding finish
    sums_stand u = no_of _ e u refl ∙ ap finish (sym t)

  pub ends_refused : {error : EvaluationError} → x ≡ Err error → Err error ≡ finish x
  unfolding finish
  ends_refused t = ap finish (sym t)
