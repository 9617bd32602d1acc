-- The ways through the code: one law for each, over plain variables. Assumes nothing.
use mathlib.Core.Path.{◌≡◌, sym, ap, ◌∙◌}
use mathlib.Core.List.{List}
use Prim.Native.Nat.{ℕ, ◌+◌, ◌-◌, ◌*◌, ◌≤◌, ◌<◌}
use native.Mathlib.Omega.{arith}
use lib.ListN.{get_or, set, length}
use lib.Seq.{set_out}
use lib.Ieee.{Float, binary64, to_bits}
use Rattle.matrix.specs.declared.Pair.{Pair}
use Rattle.cache.specs.Cache.{row_words}
use Rattle.words.specs.Words.{smaller}
use Rattle.work.specs.Work.{most_rows, block, result_written, fitted_at, fitted_row, fitted_from, fitted_written}
use Rattle.work.proofs.Paths.{none_left, one_more}

-- ---- a subject's results
module _ (subject : ℕ) (eta : Pair) (nll : Float) (w : List ℕ) where
  pub beyond_end : length w ≤ subject → w ≡ result_written subject eta nll w
  unfolding result_written
  beyond_end h =
      let first = to_bits binary64 eta.first in
      let second = to_bits binary64 eta.second in
      let last = to_bits binary64 nll in
      sym (ap (λ (l : List ℕ). set (set l (3 * subject + 1) second) (3 * subject + 2) last) (set_out w (3 * subject) first (omega arith))
      ∙ ap (λ (l : List ℕ). set l (3 * subject + 2) last) (set_out w (3 * subject + 1) second (omega arith))
      ∙ set_out w (3 * subject + 2) last (omega arith))

  pub writes : {a b c : ℕ} {w₁ w₂ w₃ : List ℕ} → a ≡ to_bits binary64 eta.first → w₁ ≡ set w (3 * subject) a → b ≡ to_bits binary64 eta.second → w₂ ≡ set w₁ (3 * subject + 1) b
      → c ≡ to_bits binary64 nll → w₃ ≡ set w₂ (3 * subject + 2) c → w₃ ≡ result_written subject eta nll w
  unfolding result_written
  writes ea e eb f ec g =
      g ∙ (λ i. set ((f ∙ (λ j. set ((e ∙ ap (set w (3 * subject)) ea) j) (3 * subject + 1) (eb j))) i) (3 * subject + 2) (ec i))

-- ---- n fitted rows written, at row i
module _ (at : ℕ) (work : List ℕ) (rows n i : ℕ) (w : List ℕ) where
  pub fitted_end : n ≤ i → w ≡ fitted_from (n - i) at work rows i w
  unfolding fitted_from
  fitted_end h = ap (λ (m : ℕ). fitted_from m at work rows i w) (none_left n i h)

  -- p and b are where the two blocks begin, x and y the predictions
  pub fitted_step : {p b x y : ℕ} {w₁ w₂ : List ℕ} → i < n → p ≡ block rows 0 → b ≡ block rows 1 → x ≡ get_or work (p + row_words * i) 0 → w₁ ≡ set w (at + 2 * i) x → y ≡ get_or work (b + row_words * i) 0
      → w₂ ≡ set w₁ (at + 2 * i + 1) y → fitted_from (n - (i + 1)) at work rows (i + 1) w₂ ≡ fitted_from (n - i) at work rows i w
  unfolding fitted_from fitted_row
  fitted_step h ep eb ex e ey f =
      let x-is = ex ∙ ap (λ (m : ℕ). get_or work (m + row_words * i) 0) ep in
      let y-is = ey ∙ ap (λ (m : ℕ). get_or work (m + row_words * i) 0) eb in
      ap (fitted_from (n - (i + 1)) at work rows (i + 1)) (f ∙ (λ d. set ((e ∙ ap (set w (at + 2 * i)) x-is) d) (at + 2 * i + 1) (y-is d)))
      ∙ ap (λ (m : ℕ). fitted_from m at work rows i w) (one_more n i h)

pub fitted : {n at : ℕ} {w' : List ℕ} (subjects first : ℕ) (work : List ℕ) (rows : ℕ) (w : List ℕ) → n ≡ smaller rows most_rows → at ≡ fitted_at subjects first → w' ≡ fitted_from n at work rows 0 w → w'
    ≡ fitted_written subjects first work rows w
unfolding fitted_written
fitted subjects first work rows w e f q = q ∙ (λ i. fitted_from (e i) (f i) work rows 0 w)
