-- `is_no_variance`: its two exits, and what it tells a caller whose definition makes the two tests. Assumes nothing.
use mathlib.Core.Path.{◌≡◌, refl, sym, subst, ◌∙◌}
use mathlib.Core.Bool.{Bool, true, false}
use mathlib.Core.Logic.{inl, inr}
use Prim.Native.Nat.{ℕ}
use lib.Dec.{T}
use lib.IntN.{ℤ}
use lib.Ieee.{Float, nan, inf, fin, binary64, of_bits, fits, is_nan, lt, le}
use lib.Ieee.Bits.{is_true}
use Rattle.float64.specs.Arithmetic.{word}
use Rattle.float64.specs.Float64.{nonfinite}
use Rattle.float64.specs.Pick.{pick, yes, no, picks}
use Rattle.float64.proofs.Order.{zero⁺, of_true, of_none, le_not_lt, le_or_gt}
use Rattle.float64.proofs.Largest.{largest, none_above}

abbrev no_variance : Float → Bool
no_variance x = pick (nonfinite x) true (le x (word 0))

pub above : (x : Float) → T (fits binary64 x) → lt zero⁺ x ≡ true → lt largest x ≡ no_variance x
unfolding of_bits lt
above nan f h = absurd (of_true _ h)
above (inf true) f h = absurd (of_true _ h)
above (inf false) f h = yes _ refl refl
above (fin s m e) f h = no _ refl (none_above s m e f ∙ sym (of_none _ (λ k. le_not_lt (fin s m e) zero⁺ k (of_true _ h))))

at_most : (s : Bool) (m : ℕ) (e : ℤ) → lt zero⁺ (fin s m e) ≡ false → T (le (fin s m e) zero⁺)
unfolding is_nan
at_most s m e h = elim (le_or_gt (fin s m e) zero⁺ tt tt) [ inl g ↦ g | inr g ↦ absurd (subst T h g) ]

pub not_above_lem : (x : Float) → lt zero⁺ x ≡ false → true ≡ no_variance x
unfolding of_bits
not_above_lem nan h = yes _ refl refl
not_above_lem (inf s) h = yes _ refl refl
not_above_lem (fin s m e) h = no _ refl (sym (is_true (le (fin s m e) zero⁺) (at_most s m e h)))

-- ---- for a caller, whose definition has the same answer x at both tests
pub either : {X : Type 0} {r : Bool} (a b : Bool) (x y : X) → r ≡ pick a true b → r ≡ true → x ≡ pick a x (pick b x y)
unfolding pick
either true b x y e t = refl
either false true x y e t = refl
either false false x y e t = absurd (of_true _ (sym e ∙ t))

pub neither : {X : Type 0} {r : Bool} {z : X} (a b : Bool) (x y : X) → r ≡ pick a true b → r ≡ false → z ≡ y → z ≡ pick a x (pick b x y)
unfolding pick
neither true b x y e t q = absurd (subst T (sym e ∙ t) tt)
neither false true x y e t q = absurd (subst T (sym e ∙ t) tt)
neither false false x y e t q = q

-- by what `is_no_variance` and the other tests answered
pub refused_by : {X : Type 0} {r : Bool} (a b : Bool) (x y : X) → r ≡ pick a true b → r ≡ true → pick a x (pick b x y) ≡ x
refused_by a b x y e t = sym (either a b x y e t)

pub passed_by : {X : Type 0} {r : Bool} (a b : Bool) (x y : X) → r ≡ pick a true b → r ≡ false → pick a x (pick b x y) ≡ y
passed_by a b x y e t = sym (neither a b x y e t refl)

pub ruleset refuses = (picks, refused_by, passed_by)
