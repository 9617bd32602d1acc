-- The 17 grid points rise from -limit and stay within the largest eta_bound. Assumes nothing.
use mathlib.Core.Path.{◌≡◌, refl, sym, ap, subst}
use mathlib.Core.Bool.{Bool, true, false}
use Prim.Native.Nat.{ℕ, ◌+◌, ◌*◌, ◌≤◌, ◌<◌}
use native.Mathlib.Nat.{mul-le-mul_right, mul-pos}
use native.Mathlib.Nat as N
use native.Mathlib.Omega.{arith}
use lib.Dec.{T, lit<}
use lib.IntN.{pos, negsuc}
use lib.Ieee.{Float, nan, inf, fin, of_bits, Format, binary64, up, round, of_int, lt, le, neg, add, mul, div, fits}
use lib.Ieee.Fits.{round-fits, add-fits, neg-fits}
use lib.Ieee.Positive.{den, den_pos, positive}
use lib.Ieee.Scale.{finite, overflow}
use Rattle.float64.proofs.Order.{between_finite, P, M, P_mul, M_mul, plus, less, num?, zero⁺, le→cross, finite_num, le_trans, le_refl_num, lt_le_trans, neg_anti}
use Rattle.float64.proofs.Rounding.{Rounded, rounded_le, mul_rounded, add_rounded}
use Rattle.float64.proofs.Monotone.{rounded_num, mul_mono, mul_nonneg, add_mono, add_ge}
use Rattle.float64.proofs.Units.{L, L_pos, Units, units_of_le, rounded_rescale, Rep, rep_exact, rep_double, units_of_value, Value, value_of, add_units, neg_units}
use Rattle.float64.proofs.Bracket.{once, rounded_le_units}
use Rattle.float64.proofs.Bracket64.{edge, minus_edge, edge_units, edge_is}
use Rattle.float64.proofs.Numbers.{positive_of}
use Rattle.mode.specs.declared.population_focei.Settings.{Settings}
use Rattle.mode.specs.Rules.{grid_point}
use Rattle.mode_theorems.specs.History.{Domain}

-- 8 and 2^-10
abbrev eight : Float
eight = fin false 1 (pos 3)

abbrev thousandth : Float
thousandth = fin false 1 (negsuc 9)

-- ---- a division by 8
pub div_is : (f : Format) (x : Float) → T (finite x) → Rounded f (div f x eight) (plus x) (less x) (8 * den x)
unfolding div
div_is f nan h = absurd h
div_is f (inf s) h = absurd h
div_is f (fin false m e) h = record { sign = false; size = m * up e * 1; made = refl; value = omega arith }
div_is f (fin true m e) h = record { sign = true; size = m * up e * 1; made = refl; value = omega arith }

eight_cross : (A B c C D d : ℕ) → A * d + D * c ≤ C * c + B * d → A * (8 * d) + D * (8 * c) ≤ C * (8 * c) + B * (8 * d)
eight_cross A B c C D d h = omega arith

pub div_mono : (f : Format) (x y : Float) → T (finite x) → T (finite y) → T (le x y) → T (le (div f x eight) (div f y eight))
div_mono f x y p q h =
    rounded_le f (div f x eight) (div f y eight) (plus x) (less x) (8 * den x) (plus y) (less y) (8 * den y) (mul-pos (lit< {m = 0} {n = 8} tt) (den_pos x))
    (mul-pos (lit< {m = 0} {n = 8} tt) (den_pos y)) (div_is f x p) (div_is f y q)
    (eight_cross (plus x) (less x) (den x) (plus y) (less y) (den y) (le→cross x y p q h))

-- ---- whole numbers
abbrev pub whole : ℕ → Float
whole i = of_int binary64 (pos i)

whole_is : (i : ℕ) → Rounded binary64 (whole i) i 0 1
unfolding of_int
whole_is i = record { sign = false; size = i; made = refl; value = refl }

pub whole_mono : (i j : ℕ) → i ≤ j → T (le (whole i) (whole j))
whole_mono i j h = rounded_le binary64 (whole i) (whole j) i 0 1 j 0 1 (lit< tt) (lit< tt) (whole_is i) (whole_is j) (omega arith)

pub whole_0 : whole 0 ≡ zero⁺
unfolding of_int
whole_0 = refl

-- the number of the last grid point, as a float
abbrev sixteen : Float
sixteen = fin false 1 (pos 4)

pub whole_16 : whole 16 ≡ sixteen
unfolding of_int
whole_16 = refl

-- ---- in units
by16 : (A B c p u K : ℕ) → A * K + u * c ≡ p * c + B * K → (A * 16 + B * 0) * K + u * 16 * (c * 1) ≡ p * 16 * (c * 1) + (A * 0 + B * 16) * K
by16 A B c p u K h = omega (arith, ap (λ (z : ℕ). z * 16) h)

by8 : (A B c p u K : ℕ) → A * K + u * c ≡ p * c + B * K → A * (8 * K) + u * (8 * c) ≡ p * (8 * c) + B * (8 * K)
by8 A B c p u K h = omega (arith, ap (λ (z : ℕ). z * 8) h)

count_le : (s : Bool) (n c : ℕ) → P s n + 0 ≤ c + M s n → 0 + M s n ≤ P s n + 0 → n ≤ c
count_le false n c a b = omega arith
count_le true n c a b = omega arith

zero_units : Units binary64 zero⁺ 0 0
zero_units = record { is_finite = tt; value = refl }

room : (n k o : ℕ) → n ≤ edge_units → edge_units * k < o → n * k < o
room n k o h q = N.lt_of_le_of_lt (mul-le-mul_right k h) q

sum_lemma : (p u p2 u2 : ℕ) → p2 ≡ p * 2 → u2 ≡ u * 2 → u + p2 + u * 1 ≤ p * 1 + (p + u2)
sum_lemma p u p2 u2 a b = omega arith

pub fin_add_num : (x y : Float) → T (finite x) → T (finite y) → T (num? (add binary64 x y))
fin_add_num x y p q = rounded_num binary64 (add binary64 x y) _ _ _ (mul-pos (den_pos x) (den_pos y)) (add_rounded binary64 x y p q)

neg_finite : (x : Float) → T (finite x) → T (finite (neg x))
unfolding neg
neg_finite nan h = h
neg_finite (inf s) h = h
neg_finite (fin s m e) h = tt

minus_edge_lem : neg edge ≡ minus_edge
unfolding neg
minus_edge_lem = refl

module _ (s : Settings) (d : Domain s) where
  low : T (le thousandth s.eta_bound)
  unfolding of_bits
  low = d.bound_low

  high : T (le s.eta_bound edge)
  unfolding of_bits
  high = d.bound_high

  pub fin_l : T (finite s.eta_bound)
  fin_l = between_finite thousandth s.eta_bound edge tt tt low high

  pos_l : T (positive s.eta_bound)
  pos_l = positive_of s.eta_bound fin_l (lt_le_trans zero⁺ thousandth s.eta_bound (unfold lt in tt) low)

  pub val : Value binary64 s.eta_bound
  val = value_of binary64 s.eta_bound d.fits_bound fin_l

  abbrev pub n : ℕ
  n = val.count

  abbrev pub g : Bool
  g = val.sign

  pub few_units : n ≤ edge_units
  few_units =
      count_le g n edge_units (units_of_le binary64 s.eta_bound edge (P g n) (M g n) edge_units 0 val.units edge_is high)
      (units_of_le binary64 zero⁺ s.eta_bound 0 0 (P g n) (M g n) zero_units val.units (le_trans zero⁺ thousandth s.eta_bound (unfold le in tt) low))

  rep2 : Rep binary64 (n * 2)
  rep2 = rep_double binary64 n val.rep (room n 2 (overflow binary64) few_units (lit< tt))

  rep16 : Rep binary64 (n * 2 * 2 * 2 * 2)
  rep16 =
      rep_double binary64 (n * 2 * 2 * 2) (rep_double binary64 (n * 2 * 2) (rep_double binary64 (n * 2) rep2 (at4 n (room n 4 (overflow binary64) few_units (lit< tt))))
      (at8 n (room n 8 (overflow binary64) few_units (lit< tt)))) (at16 n (room n 16 (overflow binary64) few_units (lit< tt)))
    where
      at4 : (n : ℕ) → n * 4 < overflow binary64 → n * 2 * 2 < overflow binary64
      at4 n h = subst (λ (z : ℕ). z < overflow binary64) (sym (N.mul_assoc n 2 2)) h

      at8 : (n : ℕ) → n * 8 < overflow binary64 → n * 2 * 2 * 2 < overflow binary64
      at8 n h = subst (λ (z : ℕ). z < overflow binary64) (e n) h
        where
          e : (n : ℕ) → n * 8 ≡ n * 2 * 2 * 2
          e n = omega arith

      at16 : (n : ℕ) → n * 16 < overflow binary64 → n * 2 * 2 * 2 * 2 < overflow binary64
      at16 n h = subst (λ (z : ℕ). z < overflow binary64) (e n) h
        where
          e : (n : ℕ) → n * 16 ≡ n * 2 * 2 * 2 * 2
          e n = omega arith

  -- twice the limit, and sixteen times it, as floats
  twice : Float
  twice = round binary64 g (n * 2) (L binary64)

  times16 : Float
  times16 = round binary64 g (n * 2 * 2 * 2 * 2) (L binary64)

  twice_units : Units binary64 twice (P g (n * 2)) (M g (n * 2))
  unfolding twice
  twice_units = units_of_value binary64 (round binary64 g (n * 2) (L binary64)) g (n * 2) (rep_exact binary64 g (n * 2) rep2)

  times16_units : Units binary64 times16 (P g (n * 2 * 2 * 2 * 2)) (M g (n * 2 * 2 * 2 * 2))
  unfolding times16
  times16_units = units_of_value binary64 (round binary64 g (n * 2 * 2 * 2 * 2) (L binary64)) g (n * 2 * 2 * 2 * 2) (rep_exact binary64 g (n * 2 * 2 * 2 * 2) rep16)

  twice_fits : T (fits binary64 twice)
  unfolding twice
  twice_fits = round-fits binary64 g (n * 2) (L binary64)

  times16_fits : T (fits binary64 times16)
  unfolding times16
  times16_fits = round-fits binary64 g (n * 2 * 2 * 2 * 2) (L binary64)

  -- limit * i
  abbrev pub product : ℕ → Float
  product i = mul binary64 s.eta_bound (whole i)

  product16 : T (le (mul binary64 s.eta_bound sixteen) times16)
  product16 =
      rounded_le_units binary64 (mul binary64 s.eta_bound sixteen) times16 (P g n * 16) (M g n * 16) 1 (P g (n * 2 * 2 * 2 * 2)) (M g (n * 2 * 2 * 2 * 2)) (lit< tt) times16_fits times16_units
      (once binary64 (mul binary64 s.eta_bound sixteen) (P g n * 16) (M g n * 16)
      (rounded_rescale binary64 (mul binary64 s.eta_bound sixteen) (plus s.eta_bound * 16 + less s.eta_bound * 0) (plus s.eta_bound * 0 + less s.eta_bound * 16)
      (den s.eta_bound * 1) (P g n * 16) (M g n * 16) (L binary64)
      (mul-pos (den_pos s.eta_bound) (lit< tt)) (L_pos binary64) (mul_rounded binary64 s.eta_bound sixteen fin_l tt)
      (by16 (plus s.eta_bound) (less s.eta_bound) (den s.eta_bound) (P g n) (M g n) (L binary64) val.units.value)))
      (fit g n)
    where
      fit : (g : Bool) (n : ℕ) → P g n * 16 + M g (n * 2 * 2 * 2 * 2) * 1 ≤ P g (n * 2 * 2 * 2 * 2) * 1 + M g n * 16
      fit true n = omega arith
      fit false n = omega arith

  product_mono : (i j : ℕ) → i ≤ j → T (le (product i) (product j))
  product_mono i j h = mul_mono binary64 s.eta_bound (whole i) (whole j) pos_l (whole_mono i j h)

  product_ge : (i : ℕ) → T (le zero⁺ (product i))
  product_ge i = mul_nonneg binary64 s.eta_bound (whole i) pos_l (subst (λ (z : Float). T (le z (whole i))) whole_0 (whole_mono 0 i (omega arith)))

  pub product_finite : (i : ℕ) → i ≤ 16 → T (finite (product i))
  product_finite i h =
      between_finite zero⁺ (product i) times16 tt times16_units.is_finite (product_ge i)
      (le_trans (product i) (mul binary64 s.eta_bound sixteen) times16 (subst (λ (z : Float). T (le (product i) (mul binary64 s.eta_bound z))) whole_16 (product_mono i 16 h)) product16)

  -- limit * i / 8
  abbrev pub part : ℕ → Float
  part i = div binary64 (product i) eight

  part_mono : (i j : ℕ) → i ≤ j → j ≤ 16 → T (le (part i) (part j))
  part_mono i j h k = div_mono binary64 (product i) (product j) (product_finite i (N.le_trans h k)) (product_finite j k) (product_mono i j h)

  eighth_zero : T (le zero⁺ (div binary64 zero⁺ eight))
  unfolding div le
  eighth_zero = tt

  part_ge : (i : ℕ) → i ≤ 16 → T (le zero⁺ (part i))
  part_ge i h = le_trans zero⁺ (div binary64 zero⁺ eight) (part i) eighth_zero (div_mono binary64 zero⁺ (product i) tt (product_finite i h) (product_ge i))

  eighth16 : T (le (div binary64 times16 eight) twice)
  eighth16 =
      rounded_le_units binary64 (div binary64 times16 eight) twice (P g (n * 2 * 2 * 2 * 2)) (M g (n * 2 * 2 * 2 * 2)) 8 (P g (n * 2)) (M g (n * 2)) (lit< tt) twice_fits twice_units
      (rounded_rescale binary64 (div binary64 times16 eight) (plus times16) (less times16) (8 * den times16) (P g (n * 2 * 2 * 2 * 2)) (M g (n * 2 * 2 * 2 * 2)) (8 * L binary64)
      (mul-pos (lit< {m = 0} {n = 8} tt) (den_pos times16)) (mul-pos (lit< {m = 0} {n = 8} tt) (L_pos binary64)) (div_is binary64 times16 times16_units.is_finite)
      (by8 (plus times16) (less times16) (den times16) (P g (n * 2 * 2 * 2 * 2)) (M g (n * 2 * 2 * 2 * 2)) (L binary64) times16_units.value))
      (fit g n)
    where
      fit : (g : Bool) (n : ℕ) → P g (n * 2 * 2 * 2 * 2) + M g (n * 2) * 8 ≤ P g (n * 2) * 8 + M g (n * 2 * 2 * 2 * 2)
      fit true n = omega arith
      fit false n = omega arith

  part_le : (i : ℕ) → i ≤ 16 → T (le (part i) twice)
  part_le i h =
      le_trans (part i) (div binary64 times16 eight) twice
      (div_mono binary64 (product i) times16 (product_finite i h) times16_units.is_finite
      (le_trans (product i) (mul binary64 s.eta_bound sixteen) times16 (subst (λ (z : Float). T (le (product i) (mul binary64 s.eta_bound z))) whole_16 (product_mono i 16 h)) product16))
      eighth16

  pub part_finite : (i : ℕ) → i ≤ 16 → T (finite (part i))
  part_finite i h = between_finite zero⁺ (part i) twice tt twice_units.is_finite (part_ge i h) (part_le i h)

  -- ---- the points
  pub neg_fin : T (finite (neg s.eta_bound))
  neg_fin = neg_finite s.eta_bound fin_l

  neg_le : T (le (neg s.eta_bound) (neg s.eta_bound))
  neg_le = le_refl_num (neg s.eta_bound) (finite_num (neg s.eta_bound) neg_fin)

  pub grid_fits : (i : ℕ) → T (fits binary64 (grid_point s.eta_bound i))
  unfolding grid_point of_bits
  grid_fits i = add-fits binary64 (neg s.eta_bound) (part i)

  pub grid_mono : (i j : ℕ) → i ≤ j → j ≤ 16 → T (le (grid_point s.eta_bound i) (grid_point s.eta_bound j))
  unfolding grid_point of_bits
  grid_mono i j h k =
      add_mono binary64 (neg s.eta_bound) (neg s.eta_bound) (part i) (part j) neg_le (part_mono i j h k)
      (fin_add_num (neg s.eta_bound) (part i) neg_fin (part_finite i (N.le_trans h k))) (fin_add_num (neg s.eta_bound) (part j) neg_fin (part_finite j k))

  pub grid_low : (i : ℕ) → i ≤ 16 → T (le minus_edge (grid_point s.eta_bound i))
  unfolding grid_point of_bits
  grid_low i h =
      le_trans minus_edge (neg s.eta_bound) (grid_point s.eta_bound i) (subst (λ (z : Float). T (le z (neg s.eta_bound))) minus_edge_lem (neg_anti s.eta_bound edge high))
      (add_ge binary64 (neg s.eta_bound) (part i) (neg-fits binary64 s.eta_bound d.fits_bound) (part_ge i h) (fin_add_num (neg s.eta_bound) (part i) neg_fin (part_finite i h)))

  top_le : T (le (add binary64 (neg s.eta_bound) twice) s.eta_bound)
  top_le =
      rounded_le_units binary64 (add binary64 (neg s.eta_bound) twice) s.eta_bound (M g n + P g (n * 2)) (P g n + M g (n * 2)) 1 (P g n) (M g n) (lit< tt) d.fits_bound val.units
      (once binary64 (add binary64 (neg s.eta_bound) twice) (M g n + P g (n * 2)) (P g n + M g (n * 2)) (add_units binary64 (neg s.eta_bound) twice (M g n) (P g n) (P g (n * 2))
      (M g (n * 2)) (neg_units binary64 s.eta_bound (P g n) (M g n) val.units) twice_units))
      (sum_lemma (P g n) (M g n) (P g (n * 2)) (M g (n * 2)) (P_mul g n 2) (M_mul g n 2))

  pub grid_high : (i : ℕ) → i ≤ 16 → T (le (grid_point s.eta_bound i) edge)
  unfolding grid_point of_bits
  grid_high i h =
      le_trans (grid_point s.eta_bound i) (add binary64 (neg s.eta_bound) twice) edge
      (add_mono binary64 (neg s.eta_bound) (neg s.eta_bound) (part i) twice neg_le (part_le i h) (fin_add_num (neg s.eta_bound) (part i) neg_fin (part_finite i h))
      (fin_add_num (neg s.eta_bound) twice neg_fin twice_units.is_finite))
      (le_trans (add binary64 (neg s.eta_bound) twice) s.eta_bound edge top_le high)
