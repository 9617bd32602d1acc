-- The filter of a chain: a bit that is set is there, and stays there. Assumes nothing.
use Rattle.std.proofs.Common.{◌≡◌, ℕ, zero, suc, ◌/◌, ◌%◌, ◌^◌, ◌<◌, ◌≤◌, true, eqb, ltb, ◌⊎◌, refl, ap, ◌∙◌, inl, inr, ⊎_elim, mod-lt, arith, lit<, pow_pos, ltb-true, eq-eqb, eqb-true}
use native.Mathlib.Nat.{div_self}
use lib.Bits.{bit_or, or_shr, or_mod}
use Rattle.float64.specs.Pick.{cases}
use Rattle.cache.specs.Cache.{has_bit, with_bit}

bit_or_lem : (x y b : ℕ) → bit_or x y / 2 ^ b % 2 ≡ bit_or (x / 2 ^ b % 2) (y / 2 ^ b % 2)
bit_or_lem x y b = ap (λ (z : ℕ). z % 2) (or_shr x y b) ∙ or_mod (x / 2 ^ b) (y / 2 ^ b) 1

-- of two digits
two_digits : (d : ℕ) → d < 2 → (d ≡ 0) ⊎ (d ≡ 1)
two_digits zero h = inl refl
two_digits (suc zero) h = inr refl
two_digits (suc (suc d)) h = absurd (omega (arith, h))

or_first : (d : ℕ) → d < 2 → bit_or 1 d ≡ 1
or_first d h = ⊎_elim (λ (e : d ≡ 0). ap (bit_or 1) e) (λ (e : d ≡ 1). ap (bit_or 1) e) (two_digits d h)

or_second : (d : ℕ) → d < 2 → bit_or d 1 ≡ 1
or_second d h = ⊎_elim (λ (e : d ≡ 0). ap (λ (z : ℕ). bit_or z 1) e) (λ (e : d ≡ 1). ap (λ (z : ℕ). bit_or z 1) e) (two_digits d h)

own : (b : ℕ) → 2 ^ b / 2 ^ b % 2 ≡ 1
own b = ap (λ (z : ℕ). z % 2) (div_self (pow_pos b))

pub own_bit : (latest oldest filter b : ℕ) → has_bit (with_bit latest oldest filter b) b ≡ true
unfolding has_bit with_bit
own_bit latest oldest filter b =
    cases (λ (z : ℕ). eqb (z / 2 ^ b % 2) 1 ≡ true) (ltb latest oldest) {x = 2 ^ b} {y = bit_or filter (2 ^ b)} (λ _. eq-eqb _ _ (own b))
    (λ _. eq-eqb _ _ (bit_or_lem filter (2 ^ b) b ∙ ap (bit_or (filter / 2 ^ b % 2)) (own b) ∙ or_second (filter / 2 ^ b % 2) (mod-lt (filter / 2 ^ b) (lit< tt))))

-- while the chain has a live entry
pub kept_bit : (latest oldest filter b c : ℕ) → oldest ≤ latest → has_bit filter c ≡ true → has_bit (with_bit latest oldest filter b) c ≡ true
unfolding has_bit with_bit
kept_bit latest oldest filter b c h e =
    cases (λ (z : ℕ). eqb (z / 2 ^ c % 2) 1 ≡ true) (ltb latest oldest) {x = 2 ^ b} {y = bit_or filter (2 ^ b)} (λ d. absurd (past (ltb-true latest oldest d)))
    (λ _. eq-eqb _ _ (bit_or_lem filter (2 ^ b) c ∙ ap (λ (z : ℕ). bit_or z (2 ^ b / 2 ^ c % 2)) (eqb-true (filter / 2 ^ c % 2) 1 e) ∙ or_first (2 ^ b / 2 ^ c % 2) (mod-lt (2 ^ b / 2 ^ c) (lit< tt))))
  where
    past : latest < oldest → ⊥
    past d = omega (arith, h, d)
