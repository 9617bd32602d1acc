-- Whole numbers: as floats, and as the bits of a signed integer. Assumes nothing.
use Rattle.std.proofs.Common.{◌≡◌, ℕ, zero, suc, ◌-◌, ◌^◌, ◌<◌, ◌≤◌, Bool, true, false, cond, T, leb, ℤ, pos, negsuc, ◌+ℤ◌, ◌-ℤ◌, nat_abs, sym, refl, ap, ◌∙◌, subst, zero-le, lt_of_lt_of_le, arith, lit≤, le→leb, lt→ltb, w64, SFits, to_z, of_z, le-ltb, lt-ltb, le-leb, leb-false, leb-true}
use lib.IntN.{sub_ℕ}
use lib.Signed.{mag}
use lib.Ieee.{binary64, in_float, minus}
use mir.ValLaws.{to_z-of_z, to_z_pos}

-- ---- a k of magnitude below 2^32: it is read back from its bits, and a float holds it
half_fits : (k : ℤ) → mag k < 0x1_0000_0000 → SFits w64 k
half_fits k h = record { sfits = lt_of_lt_of_le h (lit≤ tt) }

half_back : (k : ℤ) → mag k < 0x1_0000_0000 → to_z w64 (of_z w64 k) ≡ k
half_back k h = to_z-of_z w64 k (half_fits k h)

half_float : (k : ℤ) → mag k < 0x1_0000_0000 → T (in_float binary64 k)
unfolding in_float
half_float (pos n) h = le→leb n (2 ^ 53) (omega (arith, lit≤ {m = 0x1_0000_0000} {n = 2 ^ 53} tt))
half_float (negsuc n) h = lt→ltb n (2 ^ 53) (omega (arith, lit≤ {m = 0x1_0000_0000} {n = 2 ^ 53} tt))

-- ---- the difference of two numbers below 2^32, as the machine has it
signed : (a b : ℕ) → pos a -ℤ pos b ≡ minus a b
signed a zero = rw (le-leb 0 a zero-le) (ap pos (omega arith))
signed a (suc b) = go (leb (suc b) a) (leb-true (suc b) a) (leb-false (suc b) a)
  where
    go : (t : Bool) → (t ≡ true → suc b ≤ a) → (t ≡ false → a < suc b)
        → sub_ℕ a (suc b) ≡ cond t (pos (a - suc b)) (negsuc (suc b - suc a))
    go true p q = ap (λ (u : Bool). cond u (negsuc (suc b - suc a)) (pos (a - suc b))) (le-ltb a (suc b) (p refl))
    go false p q = ap (λ (u : Bool). cond u (negsuc (suc b - suc a)) (pos (a - suc b))) (lt-ltb a (suc b) (q refl))

module _ (a b : ℕ) (A : a < 0x1_0000_0000) (B : b < 0x1_0000_0000) where
  minus_low : mag (minus a b) < 0x1_0000_0000
  minus_low = go (leb b a)
    where
      go : (t : Bool) → mag (cond t (pos (a - b)) (negsuc (b - suc a))) < 0x1_0000_0000
      go true = omega arith
      go false = omega arith

  minus_is : to_z w64 a -ℤ to_z w64 b ≡ minus a b
  minus_is = rw (to_z_pos w64 a (lt_of_lt_of_le A (lit≤ tt)), to_z_pos w64 b (lt_of_lt_of_le B (lit≤ tt))) (signed a b)

  pub minus_fits : SFits w64 (to_z w64 a -ℤ to_z w64 b)
  minus_fits = rw minus_is (half_fits (minus a b) minus_low)

  pub minus_back : to_z w64 (of_z w64 (to_z w64 a -ℤ to_z w64 b)) ≡ minus a b
  minus_back = rw minus_is (half_back (minus a b) minus_low)

  pub minus_float : T (in_float binary64 (to_z w64 (of_z w64 (to_z w64 a -ℤ to_z w64 b))))
  minus_float = rw minus_back (half_float (minus a b) minus_low)

-- ---- a k of magnitude below 1000: so too, and 1023 + k is an exponent's field
small_half : (k : ℤ) → mag k < 1000 → mag k < 0x1_0000_0000
small_half k h = lt_of_lt_of_le h (lit≤ tt)

pub small_back : (k : ℤ) → mag k < 1000 → to_z w64 (of_z w64 k) ≡ k
small_back k h = half_back k (small_half k h)

pub small_float : (k : ℤ) → mag k < 1000 → T (in_float binary64 k)
small_float k h = half_float k (small_half k h)

pub field_is : (k : ℤ) → mag k < 1000 → pos 1023 +ℤ k ≡ pos (nat_abs (pos 1023 +ℤ k))
field_is (pos n) h = refl
field_is (negsuc n) h =
    let e = le-ltb 1023 (suc n) (omega arith) in
    ap (λ (t : Bool). cond t (negsuc (suc n - suc 1023)) (pos (1023 - suc n))) e
    ∙ ap (λ (t : Bool). pos (nat_abs (cond t (negsuc (suc n - suc 1023)) (pos (1023 - suc n))))) (sym e)

pub field_low : (k : ℤ) → mag k < 1000 → nat_abs (pos 1023 +ℤ k) < 2046
field_low (pos n) h = omega arith
field_low (negsuc n) h =
    subst (λ (t : Bool). nat_abs (cond t (negsuc (suc n - suc 1023)) (pos (1023 - suc n))) < 2046) (sym (le-ltb 1023 (suc n) (omega arith))) (omega arith)

-- the sum as the machine has it: from the bits of k, and back from those of the sum
pub field_back : (k : ℤ) → mag k < 1000 → to_z w64 (of_z w64 (pos 1023 +ℤ to_z w64 (of_z w64 k))) ≡ pos (nat_abs (pos 1023 +ℤ k))
field_back k h =
    ap (λ (z : ℤ). to_z w64 (of_z w64 (pos 1023 +ℤ z))) (small_back k h)
    ∙ ap (λ (z : ℤ). to_z w64 (of_z w64 z)) (field_is k h)
    ∙ to_z-of_z w64 (pos (nat_abs (pos 1023 +ℤ k))) (record { sfits = lt_of_lt_of_le (field_low k h) (lit≤ tt) })

pub field_fits : (k : ℤ) → mag k < 1000 → SFits w64 (pos 1023 +ℤ to_z w64 (of_z w64 k))
field_fits k h =
    subst (λ (z : ℤ). SFits w64 (pos 1023 +ℤ z)) (sym (small_back k h))
    (subst (λ (z : ℤ). SFits w64 z) (sym (field_is k h)) (record { sfits = lt_of_lt_of_le (field_low k h) (lit≤ tt) }))
