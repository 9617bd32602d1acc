-- The words of floats by the tests of `log`: a positive normal float's is from 0x0010_0000_0000_0000 on and below the infinity's, a subnormal one's is below. Assumes nothing.
use Rattle.std.proofs.Common.{◌≡◌, ℕ, zero, suc, ◌+◌, ◌-◌, ◌*◌, ◌/◌, ◌%◌, ◌^◌, ◌<◌, ◌≤◌, true, false, T, eqb, ℤ, negsuc, refl, ap, ◌∙◌, subst, inl, inr, mul-le-mul_right, div-lt_iff_lt-mul, le-div_iff_mul-le, zero-add, div-one, arith, lit<, le-ltb, ne_eqb, eqb-true}
use borrow.Author.Tests.{lt-leb}
use lib.Ieee.{Float, nan, inf, fin, binary64, of_bits, to_bits, of_int, size, is_nan, up, down, le, add, sub, mul, div}
use lib.Ieee.Digits.{size-le}
use lib.Ieee.Fits.{down_pos, kept-lt}
use Rattle.float64.specs.Arithmetic.{word}
use Rattle.float64.specs.Pick.{yes, no, cases}
use Rattle.float64.proofs.Order.{of_true, le→cross, lt→cross, le_or_gt}
use Rattle.float64.proofs.Largest.{largest}
use Rattle.libm.specs.Log.{remainder, log_around, log_of_word, log}

abbrev pub smallest : Float
smallest = fin false 1 (negsuc 1021)

-- ---- the word of n of the smallest values
abbrev word_of : ℕ → ℕ
word_of n = (size n - 53) * 0x10_0000_0000_0000 + n / 2 ^ (size n - 53)

word_is : (m : ℕ) (e : ℤ) → to_bits binary64 (fin false m e) ≡ word_of (m * up e * 2 ^ 1074 / down e)
unfolding to_bits
word_is m e = let n = m * up e * 2 ^ 1074 / down e in ap (λ (a : ℕ). a + n / 2 ^ (size n - 53)) (zero-add ((size n - 53) * 0x10_0000_0000_0000))

many : (n : ℕ) → 0x10_0000_0000_0000 ≤ n → 0x10_0000_0000_0000 ≤ word_of n
many n h = go (size n - 53)
  where
    go : (k : ℕ) → 0x10_0000_0000_0000 ≤ k * 0x10_0000_0000_0000 + n / 2 ^ k
    go zero = omega (arith, div-one n)
    go (suc k) = omega arith

few : (n : ℕ) → n < 0x10_0000_0000_0000 → word_of n < 0x10_0000_0000_0000
few n h = let e : size n - 53 ≡ 0 = omega (arith, size-le n 52 h) in rw e (omega (arith, div-one n))

not_all : (n : ℕ) → n < 2 ^ 2098 → word_of n < 0x7ff0_0000_0000_0000
not_all n h = omega (arith, size-le n 2098 h, kept-lt 53 n)

-- ---- how many those are of a float a / d, by its comparison with 1 / c or with l
at_least : (a d c : ℕ) → 0 < d → 1 * 1 * d + 0 * c ≤ a * c + 0 * d → 0x10_0000_0000_0000 ≤ a * (0x10_0000_0000_0000 * c) / d
at_least a d c D h = (le-div_iff_mul-le D).1 (omega arith)

less_than : (a d c : ℕ) → 0 < d → a * c + 0 * d < 1 * 1 * d + 0 * c → a * (0x10_0000_0000_0000 * c) / d < 0x10_0000_0000_0000
less_than a d c D h = (div-lt_iff_lt-mul D).1 (omega arith)

under_all : (a d l c b : ℕ) → 0 < d → a * 1 + 0 * d ≤ l * d + 0 * 1 → l * c < b → a * c / d < b
under_all a d l c b D h g = (div-lt_iff_lt-mul D).1 (omega (arith, mul-le-mul_right c h, mul-le-mul_right d g))

negative : (a d c : ℕ) → 0 < d → 1 * 1 * d + a * c ≤ 0 * c + 0 * d → ⊥
negative a d c D h = omega arith

-- ---- what the tests of the float say of its word
pub normal : (x : Float) → le smallest x ≡ true → le x largest ≡ true → (0x10_0000_0000_0000 ≤ to_bits binary64 x) × (to_bits binary64 x < 0x7ff0_0000_0000_0000)
unfolding le
normal nan h g = absurd (of_true _ h)
normal (inf true) h g = absurd (of_true _ h)
normal (inf false) h g = absurd (of_true _ g)
normal (fin true m e) h g = absurd (negative (m * up e) (down e) (2 ^ 1022) (down_pos e) (le→cross smallest (fin true m e) tt tt (of_true _ h)))
normal (fin false m e) h g =
    rw (word_is m e) (
      many _ (at_least (m * up e) (down e) (2 ^ 1022) (down_pos e) (le→cross smallest (fin false m e) tt tt (of_true _ h))),
      not_all _ (under_all (m * up e) (down e) (9007199254740991 * 2 ^ 971) (2 ^ 1074) (2 ^ 2098) (down_pos e) (le→cross (fin false m e) largest tt tt (of_true _ g)) (lit< tt)),
    )

pub subnormal : (x : Float) → le smallest x ≡ false → to_bits binary64 x < 0x7ff0_0000_0000_0000 → to_bits binary64 x < 0x10_0000_0000_0000
unfolding to_bits is_nan
subnormal nan h g = omega arith
subnormal (inf true) h g = omega arith
subnormal (inf false) h g = omega arith
subnormal (fin true m e) h g = omega arith
subnormal (fin false m e) h g =
    rw (word_is m e) (elim (le_or_gt smallest (fin false m e) tt tt) [
      | inl k ↦ absurd (subst T h k)
      | inr k ↦ few _ (less_than (m * up e) (down e) (2 ^ 1022) (down_pos e) (lt→cross (fin false m e) smallest tt tt k))
    ])

pub not_one : (w : ℕ) → w < 0x10_0000_0000_0000 → eqb w 0x3ff0_0000_0000_0000 ≡ false
not_one w h = ne_eqb _ _ (λ (e : w ≡ 0x3ff0_0000_0000_0000). omega arith)

-- ---- log of a normal float: the definition's answer at 1 is its computation there
at_one : log_of_word 0x3ff0_0000_0000_0000 0 ≡ word 0
unfolding log_of_word log_around remainder of_int of_bits add sub mul div
at_one = refl

pub log_normal : (x z : Float) → le smallest x ≡ true → le x largest ≡ true → z ≡ log_of_word (to_bits binary64 x) 0 → z ≡ log x
unfolding log
log_normal x z h g e =
    let w = to_bits binary64 x in
    let b = normal x h g in
    no _ (ne_eqb _ _ (λ (d : w % 0x8000_0000_0000_0000 ≡ 0). omega arith))
    (no _ (lt-leb 0x8000_0000_0000_0000 w (omega arith))
    (no _ (lt-leb _ _ b.1)
    (cases (λ (v : Float). z ≡ v) (eqb w 0x3ff0_0000_0000_0000) (λ i. e ∙ ap (λ (n : ℕ). log_of_word n 0) (eqb-true _ _ i) ∙ at_one)
    (λ i. no _ (le-ltb _ _ b.0) e))))

pub log_infinity : (x : Float) → inf false ≡ x → x ≡ log x
unfolding log to_bits
log_infinity x e = subst (λ (z : Float). z ≡ log z) e (no _ refl (no _ refl (yes _ refl refl)))
