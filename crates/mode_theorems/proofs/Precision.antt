-- The precision of an accepted omega is within 2^101: its determinant is 2^-80 at least, and no entry of omega is beyond 2^21. Assumes nothing.
use mathlib.Core.Path.{◌≡◌, refl, sym, ap, subst}
use mathlib.Core.Logic.{inl, inr}
use mathlib.Core.Bool.{Bool, true, false, not, true≢false}
use mathlib.Core.List.{List}
use lib.Dec.{T}
use lib.IntN.{pos, negsuc}
use lib.Ieee.{Float, fin, of_bits, lt, le, neg, is_nan, fits}
use lib.Ieee.Scale.{finite}
use Rattle.float64.specs.Arithmetic.{◌*ᶠ◌, ◌/ᶠ◌, word}
use Rattle.float64.specs.Float64.{nonfinite}
use Rattle.float64.specs.Pick.{pick}
use Rattle.float64.proofs.Order.{num?, zero⁺, finite_num, le_trans, lt→le, le_or_gt, le_num_r}
use Rattle.float64.proofs.Powers.{power, InPower, Least, within_finite, mul_within, mul_low, big_mul, deep_mul, nonpos, sub_finite_r, div_within, eq_le, eq_ge, neg_within}
use Rattle.matrix.specs.Matrix.{entry, array_of, determinant, has_nonfinite_entry, inverse, Inverse, some, none, inverse_positive, tiny}
use Rattle.mode_2d.specs.declared.population_focei_2d.Settings2.{Settings2}
use Rattle.mode_theorems.specs.History2.{Within, Accepted}
use Rattle.mode_theorems.specs.Claim2.{Bounded, PrecisionBound}

-- ---- the tests that a matrix with an inverse has passed
abbrev is_some : Inverse → Bool
is_some (some m d) = true
is_some none = false

past : {m : List (List Float)} {d : Float} (t : Bool) (i : Inverse) → pick t none i ≡ some m d → (t ≡ false) × (i ≡ some m d)
unfolding pick
past true i e = absurd (true≢false (sym (ap is_some e)))
past false i e = (refl, e)

second : (t u : Bool) → pick t true u ≡ false → (t ≡ false) × (u ≡ false)
unfolding pick
second true u e = absurd (true≢false e)
second false u e = (refl, e)

is_finite_lem : (x : Float) → nonfinite x ≡ false → T (finite x)
is_finite_lem x e = go (finite x) e
  where
    go : (b : Bool) → not b ≡ false → T b
    go true e = tt
    go false e = absurd (true≢false e)

above : (x y : Float) → T (num? x) → T (num? y) → le x y ≡ false → T (lt y x)
above x y p q e =
    elim (le_or_gt x y p q) [
      | inl h ↦ absurd (subst T e h)
      | inr h ↦ h
    ]

matrix_of : List (List Float) → Inverse → List (List Float)
matrix_of d (some m det) = m
matrix_of d none = d

record Passed (m i : List (List Float)) : Type 0 where
  pub finite01 : T (finite (entry m 0 1))
  pub finite10 : T (finite (entry m 1 0))
  pub finite_det : T (finite (determinant m))
  pub large : le (determinant m) (tiny *ᶠ entry m 0 0 *ᶠ entry m 1 1) ≡ false
  pub made : inverse m (determinant m) ≡ i

passed : (m i : List (List Float)) (d : Float) → inverse_positive m ≡ some i d → Passed m i
unfolding inverse_positive has_nonfinite_entry matrix_of
passed m i d h =
    let a = past (has_nonfinite_entry m) _ h in
    let b = past (le (entry m 0 0) (word 0)) _ a.1 in
    let c = past (le (entry m 1 1) (word 0)) _ b.1 in
    let e = past (nonfinite (determinant m)) _ c.1 in
    let f = past (le (determinant m) (tiny *ᶠ entry m 0 0 *ᶠ entry m 1 1)) _ e.1 in
    let x = second (nonfinite (entry m 0 0)) _ a.0 in
    let y = second (nonfinite (entry m 0 1)) _ x.1 in
    let z = second (nonfinite (entry m 1 0)) _ y.1 in
    record {
      finite01 = is_finite_lem (entry m 0 1) y.0;
      finite10 = is_finite_lem (entry m 1 0) z.0;
      finite_det = is_finite_lem (determinant m) e.0;
      large = f.0;
      made = ap (matrix_of i) f.1;
    }

-- ---- ranges
pub in_20 : (x : Float) → T (le (word 0x3eb0_0000_0000_0000) x) → T (le x (word 0x4130_0000_0000_0000)) → InPower 20 x
unfolding le of_bits
in_20 x l h = record { low = le_trans (fin true 1 (pos 20)) (fin false 1 (negsuc 19)) x tt l; high = h }

pub least_20 : (x : Float) → InPower 20 x → T (le (word 0x3eb0_0000_0000_0000) x) → Least 19 x
unfolding of_bits
least_20 x w l = record { is_finite = within_finite 20 x w; low = l }

wider : (x : Float) → InPower 20 x → InPower 21 x
unfolding le
wider x w = record { low = le_trans (fin true 1 (pos 21)) (fin true 1 (pos 20)) x tt w.low; high = le_trans x (power 20) (power 21) w.high tt }

tiny_least : Least 39 tiny
unfolding of_bits le
tiny_least = record { is_finite = tt; low = tt }

tiny_in : InPower 0 tiny
unfolding of_bits le
tiny_in = record { low = tt; high = tt }

in_2¹⁰¹ : (x y : Float) → x ≡ y → InPower 101 x → Within (word 0x4640_0000_0000_0000) y
unfolding of_bits neg
in_2¹⁰¹ x y e w = subst (Within (word 0x4640_0000_0000_0000)) e (record { low = w.low; high = w.high })

module _ (m : List (List Float)) (s : Settings2) (o : Accepted m s) where
  det : Float
  det = determinant m

  tests : Passed m (array_of s.precision)
  tests = passed m (array_of s.precision) o.det o.inverse

  in0 : InPower 20 (entry m 0 0)
  in0 = in_20 (entry m 0 0) o.low0 o.high0

  in1 : InPower 20 (entry m 1 1)
  in1 = in_20 (entry m 1 1) o.low1 o.high1

  -- ---- the determinant, above 1e-12 times the diagonal, is 2^-80 at least
  diagonal : InPower 40 (entry m 0 0 *ᶠ entry m 1 1)
  unfolding fits
  diagonal = mul_within 20 20 (entry m 0 0) (entry m 1 1) (record { high = tt; low = tt }) in0 in1

  first_least : Least 59 (tiny *ᶠ entry m 0 0)
  unfolding fits
  first_least = record {
    is_finite = within_finite 20 (tiny *ᶠ entry m 0 0) (mul_within 0 20 tiny (entry m 0 0) (record { high = tt; low = tt }) tiny_in in0);
    low = mul_low 39 19 tiny (entry m 0 0) tt tiny_least (least_20 (entry m 0 0) in0 o.low0);
  }

  bar_low : T (le (fin false 1 (negsuc 79)) (tiny *ᶠ entry m 0 0 *ᶠ entry m 1 1))
  unfolding fits
  bar_low = mul_low 59 19 (tiny *ᶠ entry m 0 0) (entry m 1 1) tt first_least (least_20 (entry m 1 1) in1 o.low1)

  det_least : Least 79 det
  unfolding det
  det_least =
      let bar = tiny *ᶠ entry m 0 0 *ᶠ entry m 1 1 in
      record {
        is_finite = tests.finite_det;
        low = le_trans (fin false 1 (negsuc 79)) bar det bar_low (lt→le bar det (above det bar (finite_num det tests.finite_det) (le_num_r (fin false 1 (negsuc 79)) bar bar_low) tests.large));
      }

  -- ---- so the product of the other two entries is at most the diagonal's
  cross : Float
  cross = entry m 0 1 *ᶠ entry m 1 0

  cross_finite : T (finite cross)
  unfolding cross determinant
  cross_finite = sub_finite_r (entry m 0 0 *ᶠ entry m 1 1) (entry m 0 1 *ᶠ entry m 1 0) (within_finite 40 (entry m 0 0 *ᶠ entry m 1 1) diagonal) tests.finite_det

  none_left : T (le (entry m 0 0 *ᶠ entry m 1 1) cross) → ⊥
  unfolding det determinant cross le
  none_left h = le_trans (fin false 1 (negsuc 79)) det zero⁺ det_least.low (nonpos (entry m 0 0 *ᶠ entry m 1 1) cross (within_finite 40 (entry m 0 0 *ᶠ entry m 1 1) diagonal) cross_finite h)

  cross_le : T (le cross (power 40))
  cross_le =
      elim (le_or_gt cross (entry m 0 0 *ᶠ entry m 1 1) (finite_num cross cross_finite) (finite_num (entry m 0 0 *ᶠ entry m 1 1) (within_finite 40 (entry m 0 0 *ᶠ entry m 1 1) diagonal))) [
        | inl h ↦ le_trans cross (entry m 0 0 *ᶠ entry m 1 1) (power 40) h diagonal.high
        | inr h ↦ absurd (none_left (lt→le (entry m 0 0 *ᶠ entry m 1 1) cross h))
      ]

  not_big : T (le (power 42) cross) → ⊥
  unfolding le
  not_big h = le_trans (power 42) cross (power 40) h cross_le

  -- ---- and so neither of the two, which are equal, is beyond 2^21
  first_le : T (le (entry m 0 1) (entry m 1 0))
  first_le = eq_le (entry m 0 1) (entry m 1 0) o.symmetric

  second_le : T (le (entry m 1 0) (entry m 0 1))
  second_le = eq_ge (entry m 0 1) (entry m 1 0) tests.finite01 tests.finite10 o.symmetric

  off01 : InPower 21 (entry m 0 1)
  unfolding fits cross is_nan
  off01 = record {
    low =
        elim (le_or_gt (fin true 1 (pos 21)) (entry m 0 1) tt (finite_num (entry m 0 1) tests.finite01)) [
          | inl h ↦ h
          | inr h ↦ let g = lt→le (entry m 0 1) (fin true 1 (pos 21)) h in absurd (not_big (deep_mul 21 (entry m 0 1) (entry m 1 0) tt tests.finite01 tests.finite10 g
              (le_trans (entry m 1 0) (entry m 0 1) (fin true 1 (pos 21)) second_le g)))
        ];
    high =
        elim (le_or_gt (entry m 0 1) (power 21) (finite_num (entry m 0 1) tests.finite01) tt) [
          | inl h ↦ h
          | inr h ↦ let g = lt→le (power 21) (entry m 0 1) h in absurd (not_big (big_mul 21 (entry m 0 1) (entry m 1 0) tt tests.finite01 tests.finite10 g
              (le_trans (power 21) (entry m 0 1) (entry m 1 0) g first_le)))
        ];
  }

  off10 : InPower 21 (entry m 1 0)
  off10 = record {
    low = le_trans (fin true 1 (pos 21)) (entry m 0 1) (entry m 1 0) off01.low first_le;
    high = le_trans (entry m 1 0) (entry m 0 1) (power 21) second_le off01.high;
  }

  -- ---- the inverse
  over_det : (x : Float) → InPower 21 x → InPower 101 (x /ᶠ determinant m)
  unfolding fits det
  over_det x w = div_within 21 79 x det (record { high = tt; low = tt }) w det_least

  bounded : Bounded s
  unfolding inverse
  bounded =
      let e = tests.made in
      record {
        within00 = in_2¹⁰¹ _ _ (ap (λ (z : List (List Float)). entry z 0 0) e) (over_det (entry m 1 1) (wider (entry m 1 1) in1));
        within01 = in_2¹⁰¹ _ _ (ap (λ (z : List (List Float)). entry z 0 1) e) (over_det (neg (entry m 0 1)) (neg_within 21 (entry m 0 1) off01));
        within10 = in_2¹⁰¹ _ _ (ap (λ (z : List (List Float)). entry z 1 0) e) (over_det (neg (entry m 1 0)) (neg_within 21 (entry m 1 0) off10));
        within11 = in_2¹⁰¹ _ _ (ap (λ (z : List (List Float)). entry z 1 1) e) (over_det (entry m 0 0) (wider (entry m 0 0) in0));
      }

pub precision_bound : PrecisionBound
precision_bound m s o = bounded m s o
