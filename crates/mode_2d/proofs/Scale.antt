-- The scale of a reduction is exact: it is 2 to the minus reduction. Assumes nothing.
use mathlib.Core.Path.{◌≡◌, refl, ap}
use mathlib.Core.Bool.{false}
use mathlib.Core.List.{List, [], ◌∷◌}
use Prim.Native.Nat.{ℕ, zero, suc, ◌<◌}
use native.Mathlib.Omega.{arith}
use lib.IntN.{pos, neg_ℤ}
use lib.Ieee.{Float, nan, fin, of_bits}
use lib.ListN.{get_or, drop}
use Rattle.mode_2d.specs.Rules.{scale}

-- ---- functions with the same values at 0 to n - 1 agree at each of these
abbrev firsts : (ℕ → Float) → ℕ → List Float
firsts f zero = []
firsts f (suc n) = f zero ∷ firsts (λ (i : ℕ). f (suc i)) n

agree : (f g : ℕ → Float) (n j : ℕ) → j < n → firsts f n ≡ firsts g n → f j ≡ g j
agree f g zero j h e = absurd (omega (arith, h))
agree f g (suc n) zero h e = ap (λ (l : List Float). get_or l 0 nan) e
agree f g (suc n) (suc j) h e =
    agree (λ (i : ℕ). f (suc i)) (λ (i : ℕ). g (suc i)) n j (omega (arith, h)) (ap (drop 1) e)

-- ---- the 22 scales, computed
pub scale_exact : (j : ℕ) → j < 22 → scale j ≡ fin false 1 (neg_ℤ (pos j))
unfolding scale of_bits
scale_exact j h = agree scale (λ (i : ℕ). fin false 1 (neg_ℤ (pos i))) 22 j h refl
