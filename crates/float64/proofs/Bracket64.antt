-- Brackets within the largest eta_bound on either side of 0 (`edge`): the halving point and the clamped secant point lie in the bracket. Assumes nothing.
use mathlib.Core.Path.{◌≡◌, refl, sym, subst}
use Prim.Native.Nat.{ℕ, ◌+◌, ◌-◌, ◌*◌, ◌^◌, ◌≤◌, ◌<◌}
use native.Mathlib.Nat.{mul-le-mul_right, mul-le-mul_left}
use native.Mathlib.Nat as N
use native.Mathlib.Omega.{arith}
use mathlib.Core.Bool.{Bool, true, false, not}
use lib.IntN.{pos, negsuc}
use lib.Dec.{T, ltb, lit≤, lit<, ltb→lt, nltb→le}
use lib.Ieee.{Float, fin, Format, binary64, lt, le, add, sub, mul, fits}
use lib.Ieee.Scale.{finite, grid, overflow}
use Rattle.float64.proofs.Order.{between_finite, P, M, num?, finite_num, le_num_l, le_num_r, le_trans, lt→le, le_not_lt, zero⁺}
use Rattle.float64.proofs.Monotone.{mul_mono, rounded_num, add_ge, sub_le, mul_nonneg, sub_mono}
use Rattle.float64.proofs.Units.{L, L_pos, Units, units_le, units_of_le, Value, value_of, sub_units}
use Rattle.float64.proofs.Bracket.{half, mid_ge, mid_le, clamp_ge, clamp_le, ends_le, width_units}
use Rattle.float64.specs.Float64.{clamp}

-- ---- the constants
-- the largest eta_bound, by sign, whole number and exponent, and how many units of the least float it is
abbrev pub edge : Float
edge = fin false 1 (pos 4)

abbrev pub minus_edge : Float
minus_edge = fin true 1 (pos 4)

abbrev pub edge_units : ℕ
edge_units = 2 ^ 1078

abbrev pub tenth : Float
tenth = fin false 3602879701896397 (negsuc 54)

abbrev pub eps : Float
eps = fin false 4951760157141521 (negsuc 91)

-- the widest bracket
abbrev span : Float
span = fin false 1 (pos 5)

abbrev minus_span : Float
minus_span = fin true 1 (pos 5)

top_width : sub binary64 edge minus_edge ≡ span
unfolding sub
top_width = refl

bottom_width : sub binary64 minus_edge edge ≡ minus_span
unfolding sub
bottom_width = refl

top_part : T (finite (mul binary64 tenth span))
unfolding mul
top_part = tt

bottom_part : T (finite (mul binary64 tenth minus_span))
unfolding mul
bottom_part = tt

-- ---- in units
pub edge_is : Units binary64 edge edge_units 0
edge_is = record { is_finite = tt; value = refl }

pub minus_edge_is : Units binary64 minus_edge 0 edge_units
minus_edge_is = record { is_finite = tt; value = refl }

pub units_eps : Units binary64 eps (4951760157141521 * 2 ^ 982) 0
units_eps = record { is_finite = tt; value = refl }

size_le : (s : Bool) (n c : ℕ) → P s n + 0 ≤ c + M s n → 0 + M s n ≤ P s n + c → n ≤ c
size_le false n c a b = omega arith
size_le true n c a b = omega arith

pub lt_units : (f : Format) (x y : Float) (p u q v : ℕ) → Units f x p u → Units f y q v → T (lt x y) → p + v < q + u
lt_units f x y p u q v i j h = go (ltb (p + v) (q + u)) (ltb→lt (p + v) (q + u)) (nltb→le (p + v) (q + u))
  where
    go : (b : Bool) → (T b → p + v < q + u) → (T (not b) → q + u ≤ p + v) → p + v < q + u
    go true a b = a tt
    go false a b = absurd (le_not_lt y x (units_le f y x q v p u j i (b tt)) h)

-- ---- the points
abbrev pub width : Float → Float → Float
width l r = sub binary64 r l

abbrev pub part : Float → Float → Float
part l r = mul binary64 tenth (width l r)

abbrev pub lo : Float → Float → Float
lo l r = add binary64 l (part l r)

abbrev pub hi : Float → Float → Float
hi l r = sub binary64 r (part l r)

abbrev pub mid : Float → Float → Float
mid l r = mul binary64 half (add binary64 l r)

-- ---- a bracket
pub record Bracket (l r : Float) : Type 0 where
  pub fits_l : T (fits binary64 l)
  pub fits_r : T (fits binary64 r)
  pub low : T (le minus_edge l)
  pub order : T (lt l r)
  pub high : T (le r edge)

double_small : (n : ℕ) → n ≤ edge_units → n * 2 < overflow binary64
double_small n h = N.lt_of_le_of_lt (mul-le-mul_right 2 h) (lit< tt)

wide_enough : (w : ℕ) → 4951760157141521 * 2 ^ 982 ≤ w → 2 ^ 55 ≤ 3602879701896397 * 1 * w
wide_enough w h = N.le_trans (lit≤ tt) (mul-le-mul_left (3602879701896397 * 1) h)

module _ (l r : Float) (b : Bracket l r) where
  pub le_lr : T (le l r)
  le_lr = lt→le l r b.order

  pub l_high : T (le l edge)
  l_high = le_trans l r edge le_lr b.high

  pub r_low : T (le minus_edge r)
  r_low = le_trans minus_edge l r b.low le_lr

  pub fin_l : T (finite l)
  fin_l = between_finite minus_edge l edge tt tt b.low l_high

  pub fin_r : T (finite r)
  fin_r = between_finite minus_edge r edge tt tt r_low b.high

  pub val_l : Value binary64 l
  val_l = value_of binary64 l b.fits_l fin_l

  pub val_r : Value binary64 r
  val_r = value_of binary64 r b.fits_r fin_r

  pub count_l : val_l.count ≤ edge_units
  count_l =
      size_le val_l.sign val_l.count edge_units (units_of_le binary64 l edge (P val_l.sign val_l.count) (M val_l.sign val_l.count) edge_units 0 val_l.units edge_is l_high)
      (units_of_le binary64 minus_edge l 0 edge_units (P val_l.sign val_l.count) (M val_l.sign val_l.count) minus_edge_is val_l.units b.low)

  pub count_r : val_r.count ≤ edge_units
  count_r =
      size_le val_r.sign val_r.count edge_units (units_of_le binary64 r edge (P val_r.sign val_r.count) (M val_r.sign val_r.count) edge_units 0 val_r.units edge_is b.high)
      (units_of_le binary64 minus_edge r 0 edge_units (P val_r.sign val_r.count) (M val_r.sign val_r.count) minus_edge_is val_r.units r_low)

  -- the halving point
  pub half_ge : T (le l (mid l r))
  half_ge = mid_ge binary64 l r val_l val_r b.fits_l (double_small val_l.count count_l) le_lr

  pub half_le : T (le (mid l r) r)
  half_le = mid_le binary64 l r val_l val_r b.fits_r (double_small val_r.count count_r) le_lr

  w_num : T (num? (width l r))
  w_num =
      rounded_num binary64 (width l r) (P val_r.sign val_r.count + M val_l.sign val_l.count) (M val_r.sign val_r.count + P val_l.sign val_l.count) (L binary64) (L_pos binary64)
      (sub_units binary64 r l (P val_r.sign val_r.count) (M val_r.sign val_r.count) (P val_l.sign val_l.count) (M val_l.sign val_l.count) val_r.units val_l.units)

  w_le : T (le (width l r) span)
  w_le = subst (λ (z : Float). T (le (width l r) z)) top_width (sub_mono binary64 r edge l minus_edge b.high b.low w_num (subst (λ (z : Float). T (num? z)) (sym top_width) (finite_num span tt)))

  w_ge : T (le minus_span (width l r))
  w_ge = subst (λ (z : Float). T (le z (width l r))) bottom_width (sub_mono binary64 minus_edge r edge l r_low l_high (subst (λ (z : Float). T (num? z)) (sym bottom_width) (finite_num minus_span tt))
      w_num)

  pub w_finite : T (finite (width l r))
  w_finite = between_finite minus_span (width l r) span tt tt w_ge w_le

  pub t_finite : T (finite (part l r))
  t_finite = between_finite (mul binary64 tenth minus_span) (part l r) (mul binary64 tenth span) bottom_part top_part (mul_mono binary64 tenth minus_span (width l r) tt w_ge)
      (mul_mono binary64 tenth (width l r) span tt w_le)

  -- the exact difference, in units
  pub gap : ℕ
  gap = P val_r.sign val_r.count + M val_l.sign val_l.count - (P val_l.sign val_l.count + M val_r.sign val_r.count)

  gap_lemma : (a c : ℕ) → c < a → (a ≡ a - c + c) × (0 < a - c)
  gap_lemma a c h = omega arith

  gap_facts : (P val_r.sign val_r.count + M val_l.sign val_l.count ≡ gap + (P val_l.sign val_l.count + M val_r.sign val_r.count)) × (0 < gap)
  unfolding gap
  gap_facts = gap_lemma (P val_r.sign val_r.count + M val_l.sign val_l.count) (P val_l.sign val_l.count + M val_r.sign val_r.count)
      (lt_units binary64 l r (P val_l.sign val_l.count) (M val_l.sign val_l.count) (P val_r.sign val_r.count) (M val_r.sign val_r.count) val_l.units val_r.units b.order)

  pub w_units : Units binary64 (width l r) (grid binary64 gap (L binary64)) 0
  w_units = width_units binary64 l r (P val_l.sign val_l.count) (M val_l.sign val_l.count) (P val_r.sign val_r.count) (M val_r.sign val_r.count) gap val_l.units val_r.units
      gap_facts.0 gap_facts.1 w_finite

  plus_zero : (a c : ℕ) → a + 0 ≤ c + 0 → a ≤ c
  plus_zero a c h = omega arith

  module _ (wide : T (lt eps (width l r))) where
    w_big : 4951760157141521 * 2 ^ 982 ≤ grid binary64 gap (L binary64)
    w_big = plus_zero (4951760157141521 * 2 ^ 982) (grid binary64 gap (L binary64)) (units_of_le binary64 eps (width l r) (4951760157141521 * 2 ^ 982) 0 (grid binary64 gap (L binary64)) 0 units_eps
        w_units (lt→le eps (width l r) wide))

    pub lo_le_hi : T (le (lo l r) (hi l r))
    lo_le_hi =
        ends_le binary64 l r (P val_l.sign val_l.count) (M val_l.sign val_l.count) (P val_r.sign val_r.count) (M val_r.sign val_r.count) gap val_l.units val_r.units gap_facts.0
        gap_facts.1 w_finite
        3602879701896397 (negsuc 54) (lit< tt) (lit≤ tt) (wide_enough (grid binary64 gap (L binary64)) w_big) t_finite

    part_ge : T (le zero⁺ (part l r))
    part_ge = mul_nonneg binary64 tenth (width l r) tt (le_trans zero⁺ eps (width l r) (unfold le in tt) (lt→le eps (width l r) wide))

    pub l_le_lo : T (le l (lo l r))
    l_le_lo = add_ge binary64 l (part l r) b.fits_l part_ge (le_num_l (lo l r) (hi l r) lo_le_hi)

    pub hi_le_r : T (le (hi l r) r)
    hi_le_r = sub_le binary64 r (part l r) b.fits_r part_ge (le_num_r (lo l r) (hi l r) lo_le_hi)

    -- the clamped point
    pub clamped_ge : (x : Float) → T (num? x) → T (le l (clamp x (lo l r) (hi l r)))
    clamped_ge x p = le_trans l (lo l r) (clamp x (lo l r) (hi l r)) l_le_lo (clamp_ge x (lo l r) (hi l r) p lo_le_hi)

    pub clamped_le : (x : Float) → T (num? x) → T (le (clamp x (lo l r) (hi l r)) r)
    clamped_le x p = le_trans (clamp x (lo l r) (hi l r)) (hi l r) r (clamp_le x (lo l r) (hi l r) p lo_le_hi) hi_le_r
