-- The ways through the code: one law for each, over plain variables. Assumes nothing.
use Rattle.std.specs.Prelude.{Err, Ok}
use Rattle.std.proofs.Common.{◌≡◌, ℕ, List, set, sym, refl, ap, ◌∙◌}
use Rattle.float64.specs.Answer.{through}
use Rattle.subject.specs.Subject.{next, finish, Evaluation}
use Rattle.subject.specs.declared.Sums.{Sums}
use Rattle.test_exports.specs.Evaluations.{sums_written, Answered, answered, told}
use Rattle.subject.specs.declared.EvaluationError.TheVariants.{Refused, RefusedAt}

-- ---- one word more is written: v are the words before, and w after it
pub stored : {v v' w : List ℕ} {x x' : ℕ} (i : ℕ) → v ≡ v' → x ≡ x' → w ≡ set v i x → w ≡ set v' i x'
stored i ev ex e = e ∙ (λ j. set (ev j) i (ex j))

-- ---- the end of an evaluation; x is what `finish` answered, w the words afterwards
module _ (evaluation : Evaluation) (out : List ℕ) {x : Evaluation} (e : x ≡ finish evaluation) where
  ended : {variant : Evaluation} {z : Answered} → x ≡ variant → z ≡ told variant out → z ≡ told (finish evaluation) out
  ended t q = q ∙ ap (λ (y : Evaluation). told y out) (sym t ∙ e)

  pub sums_told : {sums : Sums} {w : List ℕ} → x ≡ Ok sums → w ≡ sums_written sums out → answered 0 w ≡ told (finish evaluation) out
  unfolding told
  sums_told t q = ended t (ap (answered 0) q)

  pub refusal_told : {number : ℕ} {w : List ℕ} → x ≡ Err (Refused number) → w ≡ set out 7 0 → answered number w ≡ told (finish evaluation) out
  unfolding told
  refusal_told {number} t q = ended t (ap (answered number) q)

  pub refusal_at_told : {number n y : ℕ} {w : List ℕ} → x ≡ Err (RefusedAt number n) → y ≡ next n → w ≡ set out 7 y → answered number w ≡ told (finish evaluation) out
  unfolding told
  refusal_at_told {number} t p q = ended t (ap (answered number) (stored {v = out} 7 refl p q))
