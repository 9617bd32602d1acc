-- What the tests of src/lib.rt say of a word and of a float; and `free`, for every crate's proofs. Assumes nothing.
use mathlib.Core.Path.{◌≡◌, refl, sym, ap, subst, ◌∙◌}
use mathlib.Core.Bool.{Bool, true, false, not, ◌||◌, beq}
use Prim.Native.Nat.{ℕ, zero, suc, ◌+◌, ◌*◌, ◌%◌, ◌^◌, ◌<◌, ◌≤◌}
use native.Mathlib.Nat.{mul-pos, pow-suc, zero-lt-suc, zero-mul}
use native.Mathlib.Omega.{arith}
use borrow.Author.Tests.{lt-ltb, le-ltb, ltb-true, ltb-false}
use lib.Dec.{T, ltb, eqb, eqb→eq, lit<}
use lib.IntN.{ℤ, pos, negsuc}
use lib.Pow.{pow_pos}
use lib.Ieee.{Float, nan, inf, fin, binary64, of_bits, nan_bits, is_nan, fits, up, down, lt, eq, ne, neg}
use lib.Ieee.Bits.{nan_bits_is, nan_bits_above}
use lib.Ieee.Compare.{differs_from_itself}
use lib.Ieee.Fits.{up_pos, and_l}
use lib.Ieee.Scale.{finite}
use Rattle.float64.specs.Float64.{abs}

-- ---- at any place of the code, a call with no `requires` asks nothing
pub free : {C K : Type 0} → C → K → Unit {0}
free c κs = tt

-- and a literal index is below a literal length
pub index : {C : Type 0} (i n : ℕ) → T (ltb i n) → C → i < n
index i n h c = lit< h

-- ---- a NaN: it alone differs from itself, and a word is one's above the infinity's pattern
nan_of : (x : Float) → is_nan x ≡ true → nan ≡ x
unfolding is_nan
nan_of nan e = refl
nan_of (inf s) e = cc
nan_of (fin s m k) e = cc

pub differs : (x : Float) → ne x x ≡ true → nan ≡ x
differs x e = sym (differs_from_itself x (subst T (sym e) tt))

pub differs_nan : (x : Float) → ne x x ≡ true → is_nan x ≡ true
unfolding is_nan
differs_nan x e = ap is_nan (sym (differs x e))

pub same_number : (x : Float) → ne x x ≡ false → is_nan x ≡ false
unfolding is_nan ne eq
same_number nan e = e
same_number (inf s) e = refl
same_number (fin s m k) e = refl

pub not_nan : (x : Float) → ne x x ≡ false → T (not (is_nan x))
not_nan x e = subst (λ (b : Bool). T (not b)) (sym (same_number x e)) tt

pub above_nan : (w : ℕ) → 0x7ff0_0000_0000_0000 < w % 0x8000_0000_0000_0000 → nan ≡ of_bits binary64 w
above_nan w h =
    nan_of (of_bits binary64 w)
    (sym (nan_bits_is binary64 w) ∙ nan_bits_above binary64 w ∙ lt-ltb 0x7ff0_0000_0000_0000 (w % 0x8000_0000_0000_0000) h)

pub under_nan : (w : ℕ) → w % 0x8000_0000_0000_0000 ≤ 0x7ff0_0000_0000_0000 → T (not (nan_bits binary64 w))
under_nan w h =
    subst (λ (b : Bool). T (not b))
    (sym (nan_bits_above binary64 w ∙ le-ltb 0x7ff0_0000_0000_0000 (w % 0x8000_0000_0000_0000) h))
    tt

-- ---- the two tests of is_finite
pub finite_below : (x : Float) → lt x (inf false) ≡ true → lt (inf true) x ≡ finite x
unfolding lt
finite_below nan e = refl
finite_below (inf true) e = refl
finite_below (inf false) e = sym e
finite_below (fin s m k) e = refl

pub finite_not : (x : Float) → lt x (inf false) ≡ false → false ≡ finite x
unfolding lt
finite_not nan e = refl
finite_not (inf s) e = refl
finite_not (fin s m k) e = sym e

-- ---- the tests of abs
none : {X : Type 0} → ⊥ → X
none h = absurd h

size_pos : (m : ℕ) (e : ℤ) → 0 < suc m * up e * 1
size_pos m e = mul-pos (mul-pos (zero-lt-suc m) (up_pos e)) (zero-lt-suc 0)

pub abs_below : (x : Float) → lt x (fin false 0 (pos 0)) ≡ true → neg x ≡ abs x
unfolding lt neg abs
abs_below nan e = cc
abs_below (inf true) e = refl
abs_below (inf false) e = cc
abs_below (fin true m k) e = refl
abs_below (fin false m k) e = none (let h : m * up k * 1 < 0 * 1 * down k = ltb-true _ _ e in omega (arith, simp zero-mul at h))

-- a zero that fits is written with the exponent 0
two_pow : (k : ℕ) → 2 ^ suc k ≡ 1 → ⊥
two_pow k h = omega (arith, pow_pos k, pow-suc 2 k)

zero_exponent : (e : ℤ) → T (eqb (up e * down e) 1) → pos 0 ≡ e
zero_exponent (pos zero) h = refl
zero_exponent (pos (suc k)) h = none (two_pow k (let g : 2 ^ suc k * 1 ≡ 1 = eqb→eq _ _ h in omega arith))
zero_exponent (negsuc k) h = none (two_pow k (let g : 1 * 2 ^ suc k ≡ 1 = eqb→eq _ _ h in omega arith))

pub abs_zero : (x : Float) → T (fits binary64 x) → eq x (fin false 0 (pos 0)) ≡ true → fin false 0 (pos 0) ≡ abs x
unfolding eq abs fits
abs_zero nan f e = cc
abs_zero (inf s) f e = cc
abs_zero (fin s zero k) f e = ap (λ (i : ℤ). fin false 0 i) (zero_exponent k f)
abs_zero (fin s (suc m) k) f e =
    none (let h : suc m * up k * 1 ≡ 0 * 1 * down k = eqb→eq _ _ (and_l (eqb (suc m * up k * 1) (0 * 1 * down k)) (beq s false || eqb (suc m * up k * 1) 0) (subst T (sym e) tt)) in omega
    (arith, simp zero-mul at h, size_pos m k))

pub abs_rest : (x : Float) → lt x (fin false 0 (pos 0)) ≡ false → eq x (fin false 0 (pos 0)) ≡ false → x ≡ abs x
unfolding lt eq abs
abs_rest nan d e = refl
abs_rest (inf true) d e = cc
abs_rest (inf false) d e = refl
abs_rest (fin true zero k) d e = none (let h : true ≡ false = simp zero-mul at e in subst T h tt)
abs_rest (fin false m k) d e = refl
abs_rest (fin true (suc m) k) d e =
    none (let h : suc m * up k * 1 + 0 * 1 * down k ≤ 0 = ltb-false _ _ d in omega (arith, h, size_pos m k))
