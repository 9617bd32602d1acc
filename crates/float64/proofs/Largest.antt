-- The largest finite float: none is above it but the infinity. Assumes nothing.
use mathlib.Core.Path.{◌≡◌, refl, sym, subst}
use mathlib.Core.Bool.{Bool, true, false, not, ◌&&◌}
use mathlib.Core.Logic.{inl, inr}
use Prim.Native.Nat.{ℕ, zero, suc, ◌+◌, ◌-◌, ◌*◌, ◌%◌, ◌^◌, ◌≤◌, ◌<◌}
use native.Mathlib.Nat.{mul-le-mul, mul-le-mul_right, lt_of_mul-lt-mul_right, zero-mul, le_trans}
use native.Mathlib.Omega.{arith}
use borrow.Author.Tests.{le-ltb}
use lib.Dec.{T, ltb, leb, eqb, ltb→lt, nltb→le, lit≤}
use lib.IntN.{ℤ, pos, negsuc}
use lib.Ieee.{Float, nan, inf, fin, binary64, fits, is_nan, up, down, lt, le}
use lib.Ieee.Fits.{and_l, and_r}
use lib.Pow.{pow-add, pow_pos, pow_mono}
use Rattle.float64.proofs.Order.{of_true, le_num_r, le_or_gt}

abbrev pub largest : Float
largest = fin false 9007199254740991 (pos 971)

-- ---- a whole number of units of 2^971, below 2^1024 = 2^53 of them, is at most 2^53 - 1 of them
whole : (m p b : ℕ) → m * (b * p) < 9007199254740992 * b → m * (b * p) ≤ 9007199254740991 * b
whole m p b h =
    let few : m * p < 9007199254740992 = lt_of_mul-lt-mul_right b (let g : m * p * b < 9007199254740992 * b = omega (arith, h) in g) in
    omega (arith, mul-le-mul_right b (let g : m * p ≤ 9007199254740991 = omega (arith, few) in g))

high : (m k : ℕ) → m * 2 ^ (971 + k) < 9007199254740992 * 2 ^ 971 → m * 2 ^ (971 + k) ≤ 9007199254740991 * 2 ^ 971
high m k h =
    subst (λ (n : ℕ). m * n ≤ 9007199254740991 * 2 ^ 971) (sym (pow-add 2 971 k))
    (whole m (2 ^ k) (2 ^ 971) (subst (λ (n : ℕ). m * n < 9007199254740992 * 2 ^ 971) (pow-add 2 971 k) h))

-- a mantissa m below 2^53, with an exponent k
from_971 : (k : ℕ) → 971 ≤ k → 971 + (k - 971) ≡ k
from_971 k h = omega (arith, h)

most : (m : ℕ) → m < 2 ^ 53 → m ≤ 9007199254740991
most m h = omega (arith, h)

weak : (k : ℕ) → k < 971 → k ≤ 971
weak k h = omega (arith, h)

large : (m k : ℕ) → m < 2 ^ 53 → m * 2 ^ k < 2 ^ 1024 → m * 2 ^ k ≤ 9007199254740991 * 2 ^ 971
large m k l h = go (ltb k 971) (ltb→lt k 971) (nltb→le k 971)
  where
    go : (b : Bool) → (T b → k < 971) → (T (not b) → 971 ≤ k) → m * 2 ^ k ≤ 9007199254740991 * 2 ^ 971
    go true a b = mul-le-mul (most m l) (pow_mono (weak k (a tt)))
    go false a b =
        let e = from_971 k (b tt) in
        subst (λ (n : ℕ). m * 2 ^ n ≤ 9007199254740991 * 2 ^ 971) e (high m (k - 971) (subst (λ (n : ℕ). m * 2 ^ n < 2 ^ 1024) (sym e) h))

small : (m c d : ℕ) → m ≤ c → 0 < d → m * 1 * 1 ≤ c * d
small m c d l h = let g : m * 1 ≤ c * d = mul-le-mul l h in omega (arith, g)

up_to_largest : (m : ℕ) (e : ℤ) → m < 2 ^ 53 → m * up e < 2 ^ 1024 * down e → m * up e * 1 ≤ 9007199254740991 * 2 ^ 971 * down e
up_to_largest m (pos k) l h = mul-le-mul_right 1 (large m k l h)
up_to_largest m (negsuc k) l h = small m (9007199254740991 * 2 ^ 971) (2 ^ suc k) (le_trans (most m l) (lit≤ tt)) (pow_pos (suc k))

-- ---- every finite float that fits
nought : (u c : ℕ) → 0 * u * 1 ≤ c
nought u c = omega (arith, zero-mul u)

pub none_above : (s : Bool) (m : ℕ) (e : ℤ) → T (fits binary64 (fin s m e)) → lt largest (fin s m e) ≡ false
unfolding lt fits
none_above true m e f = refl
none_above false zero e f = le-ltb _ _ (nought (up e) _)
none_above false (suc m) e f =
    let a = eqb (suc m % 2) 1 in
    let b = ltb (suc m) (2 ^ 53) in
    let c = leb (down e) (2 ^ 1074) in
    let d = ltb (suc m * up e) (2 ^ 1024 * down e) in
    le-ltb _ _ (up_to_largest (suc m) e (ltb→lt _ _ (and_r a b (and_l (a && b) c (and_l (a && b && c) d f)))) (ltb→lt _ _ (and_r (a && b && c) d f)))

-- so a number that is not up to it is the infinity
pub beyond : (x y : Float) → T (fits binary64 x) → le y x ≡ true → le x largest ≡ false → inf false ≡ x
unfolding is_nan
beyond nan y f h g = absurd (le_num_r y nan (of_true _ h))
beyond (inf true) y f h g = absurd (subst T g (unfold le in tt))
beyond (inf false) y f h g = refl
beyond (fin s m e) y f h g = elim (le_or_gt (fin s m e) largest tt tt) [ inl k ↦ absurd (subst T g k) | inr k ↦ absurd (subst T (none_above s m e f) k) ]
