-- The two exits of `is_no_deviation`: a float is finite and not below 0 where it is from 0 up to the largest. Assumes nothing.
use Rattle.std.proofs.Common.{◌≡◌, ℕ, Bool, true, false, T, ℤ, sym, refl, ◌∙◌, subst, inl, inr}
use lib.Ieee.{Float, nan, inf, fin, binary64, of_bits, fits, is_nan, lt, le, eq}
use lib.Ieee.Bits.{is_true}
use Rattle.float64.specs.Pick.{yes, no}
use Rattle.float64.proofs.Order.{zero⁺, of_none, le_not_lt, lt_or_ge}
use Rattle.float64.proofs.Largest.{largest, none_above}
use Rattle.subject.specs.Observations.{is_no_deviation}

under : (s : Bool) (m : ℕ) (e : ℤ) → le zero⁺ (fin s m e) ≡ false → T (lt (fin s m e) zero⁺)
unfolding is_nan
under s m e h = elim (lt_or_ge (fin s m e) zero⁺ tt tt) [ inl g ↦ g | inr g ↦ absurd (subst T h g) ]

pub not_below : (x : Float) → T (fits binary64 x) → le zero⁺ x ≡ true → lt largest x ≡ is_no_deviation x
unfolding is_no_deviation of_bits lt le eq
not_below nan f h = absurd (subst T (sym h) tt)
not_below (inf true) f h = absurd (subst T (sym h) tt)
not_below (inf false) f h = yes _ refl refl
not_below (fin s m e) f h = no _ refl (none_above s m e f ∙ sym (of_none _ (le_not_lt zero⁺ (fin s m e) (subst T (sym h) tt))))

pub below : (x : Float) → le zero⁺ x ≡ false → true ≡ is_no_deviation x
unfolding is_no_deviation of_bits
below nan h = yes _ refl refl
below (inf s) h = yes _ refl refl
below (fin s m e) h = no _ refl (sym (is_true (lt (fin s m e) zero⁺) (under s m e h)))
