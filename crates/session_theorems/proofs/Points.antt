-- What check 7 says of a point: each eta is from -16 to 16. And with that, a score with its prior is no NaN. Assumes nothing.
use mathlib.Core.Path.{◌≡◌, refl, sym, ap, subst, ◌∙◌}
use mathlib.Core.Bool.{Bool, true, false, not}
use Prim.Native.Nat.{ℕ}
use lib.Dec.{T, eqb}
use borrow.Author.Tests.{eq-eqb}
use lib.Ieee.{Float, nan, inf, fin, is_nan, fits, of_bits, le, neg, mul, binary64}
use lib.Ieee.Scale.{finite}
use Rattle.float64.specs.Answer.{Answer, given, refused}
use Rattle.float64.specs.Arithmetic.{◌+ᶠ◌, ◌*ᶠ◌, ◌/ᶠ◌, word, edge}
use Rattle.float64.specs.Float64.{nonfinite}
use Rattle.float64.specs.Pick.{pick_yes, pick_no, cases}
use Rattle.float64.proofs.Order.{num?, of_true}
use Rattle.float64.proofs.Powers.{within_finite, div_within, finite_add_num}
use Rattle.libm.specs.Exp.{exp}
use Rattle.matrix.specs.declared.Pair.{Pair}
use Rattle.mode_theorems.specs.History2.{Within}
use Rattle.mode_theorems.proofs.Joint.{in_16}
use Rattle.mode_theorems.proofs.Precision.{in_20, least_20}
use Rattle.subject.specs.Subject.{individual, is_no_individual, individual_values}

-- from -16 to 16
abbrev pub WithinEdge : Float → Type 0
WithinEdge x = Within edge x

pub zero_in_16 : WithinEdge (word 0)
unfolding le neg of_bits
zero_in_16 = record { low = tt; high = tt }

false_not_true : {X : Type 0} → ◌≡◌ {A = Bool} true false → X
false_not_true e = absurd (subst T e tt)

-- a product with a NaN is one
mul_nan : (x : Float) → mul binary64 x nan ≡ nan
unfolding mul
mul_nan nan = refl
mul_nan (inf s) = refl
mul_nan (fin s m e) = refl

-- exp is a NaN elsewhere, and so is the individual value
individual_nan : (theta eta : Float) → exp eta ≡ nan → is_no_individual (individual theta eta) ≡ true
unfolding individual is_no_individual
individual_nan theta eta e =
    let v : theta *ᶠ exp eta ≡ nan = ap (λ (z : Float). theta *ᶠ z) e ∙ mul_nan theta in
    pick_yes _ _ _ (ap nonfinite v)

pub passes_16 : (theta eta : Float) → is_no_individual (individual theta eta) ≡ false → WithinEdge eta
unfolding exp
passes_16 theta eta h =
    let outside : exp eta ≡ nan → WithinEdge eta = λ e. false_not_true (sym (individual_nan theta eta e) ∙ h) in
    by_low (le (neg edge) eta) refl outside
  where
    by_high : (b : Bool) → le eta edge ≡ b → le (neg edge) eta ≡ true → (exp eta ≡ nan → WithinEdge eta) → WithinEdge eta
    by_high true e l out = record { low = of_true _ l; high = of_true _ e }
    by_high false e l out = out (pick_yes _ _ _ l ∙ pick_no _ _ _ e)

    by_low : (b : Bool) → le (neg edge) eta ≡ b → (exp eta ≡ nan → WithinEdge eta) → WithinEdge eta
    by_low true e out = by_high (le eta edge) refl e out
    by_low false e out = out (pick_no _ _ _ e)

-- ---- the individual values of a question
pub record Passed (eta : Pair) (effects : ℕ) : Type 0 where
  pub first : WithinEdge eta.first
  pub second : effects ≡ 2 → WithinEdge eta.second

pub values_within : (theta eta : Pair) (effects : ℕ) (v : Pair) → individual_values theta eta effects ≡ given v → Passed eta effects
unfolding individual_values
values_within theta eta effects v =
    let f = individual theta.first eta.first in
    let s = individual theta.second eta.second in
    cases (λ (a : Answer Pair). a ≡ given v → Passed eta effects) (is_no_individual f) (λ t e. never e)
    (λ one. cases (λ (a : Answer Pair). a ≡ given v → Passed eta effects) (eqb effects 2)
    (λ two. cases (λ (a : Answer Pair). a ≡ given v → Passed eta effects) (is_no_individual s) (λ t e. never e)
    (λ other e. record { first = passes_16 theta.first eta.first one; second = λ k. passes_16 theta.second eta.second other }))
    (λ two e. record { first = passes_16 theta.first eta.first one; second = λ k. false_not_true (sym (eq-eqb _ _ k) ∙ two) }))
  where
    never : refused 7 ≡ given v → Passed eta effects
    never e = absurd (let z : ◌≡◌ {A = ℕ} 0 1 = cc in let t : T (eqb 0 1) = subst (λ (n : ℕ). T (eqb 0 n)) z tt in t)

-- ---- a score with its prior
not_nan : (x : Float) → T (num? x) → T (not (is_nan x))
unfolding is_nan
not_nan nan h = h
not_nan (inf s) h = h
not_nan (fin s m e) h = h

pub prior_number : (score eta omega : Float) → T (finite score) → WithinEdge eta → T (le (word 0x3eb0_0000_0000_0000) omega) → T (le omega (word 0x4130_0000_0000_0000)) → T
    (not (is_nan (score +ᶠ eta /ᶠ omega)))
unfolding fits
prior_number score eta om f w low high =
    let o = in_20 om low high in
    not_nan _ (finite_add_num score (eta /ᶠ om) f (within_finite 24 _ (div_within 4 19 eta om (record { high = tt; low = tt }) (in_16 eta w) (least_20 om o low))))

pub edge_number : (x : Float) → WithinEdge x → T (not (is_nan x))
unfolding le is_nan
edge_number nan w = w.high
edge_number (inf s) w = tt
edge_number (fin s m e) w = tt
