-- The points that a bracketed search tries: the halving point lies in the bracket, a clamped point between its ends, and the two ends of the clamp
-- are in order. Assumes nothing.
use mathlib.Core.Path.{◌≡◌, refl, sym, ap, ◌∙◌, subst}
use Prim.Native.Nat.{ℕ, ◌+◌, ◌*◌, ◌≤◌, ◌<◌}
use native.Mathlib.Nat.{le_of_mul-le-mul_right, mul-le-mul_right, mul-le-mul_left, mul-pos, le_of_eq, mul_assoc, mul_right_comm}
use native.Mathlib.Nat as N
use native.Mathlib.Omega.{arith}
use mathlib.Core.Bool.{Bool, true, false, not}
use lib.IntN.{ℤ, negsuc}
use lib.Dec.{T, lit<}
use lib.Ieee.{Float, nan, inf, fin, Format, up, down, round, lt, le, add, sub, mul, is_nan, fits}
use lib.Ieee.Fits.{down_pos, round-fits}
use lib.Ieee.Positive.{den}
use lib.Ieee.Scale.{finite, grid, overflow}
use Rattle.float64.specs.Float64.{clamp}
use Rattle.float64.specs.Pick.{pick, both}
use Rattle.float64.proofs.Order.{P, M, P_mul, M_mul, plus, less, num?, le_num_l, le_num_r, le_trans, le_refl_num, total}
use Rattle.float64.proofs.Rounding.{Rounded, rounded_le, rounded_le_value, value_le_rounded}
use Rattle.float64.proofs.Monotone.{mul_mono}
use Rattle.float64.proofs.Units.{L, L_pos, Units, units_of_le, rounded_rescale, add_units, sub_units, mul_units, Rep, rep_exact, rep_double, units_of_value, Value, rounded_grid, grid_twice}

-- ---- an order between a value in units and a rounded result
cross_up : (A B d q v p u K c : ℕ) → A * K + v * d ≡ q * d + B * K → q * c + u ≤ p + v * c → A * (c * K) + u * d ≤ p * d + B * (c * K)
cross_up A B d q v p u K c e h = omega (arith, ap (λ (z : ℕ). z * c) e, mul-le-mul_right d h)

cross_down : (A B d q v p u K c : ℕ) → A * K + v * d ≡ q * d + B * K → p + v * c ≤ q * c + u → p * d + B * (c * K) ≤ A * (c * K) + u * d
cross_down A B d q v p u K c e h = omega (arith, ap (λ (z : ℕ). z * c) e, mul-le-mul_right d h)

pub units_le_rounded : (f : Format) (y x : Float) (q v p u c : ℕ) → 0 < c → T (fits f y) → Units f y q v → Rounded f x p u (c * L f) → q * c + u ≤ p + v * c → T (le y x)
units_le_rounded f y x q v p u c C h i j k = value_le_rounded f y x p u (c * L f) (mul-pos C (L_pos f)) j h i.is_finite (cross_up (plus y) (less y) (den y) q v p u (L f) c i.value k)

pub rounded_le_units : (f : Format) (x y : Float) (p u c q v : ℕ) → 0 < c → T (fits f y) → Units f y q v → Rounded f x p u (c * L f) → p + v * c ≤ q * c + u → T (le x y)
rounded_le_units f x y p u c q v C h i j k = rounded_le_value f x y p u (c * L f) (mul-pos C (L_pos f)) j h i.is_finite (cross_down (plus y) (less y) (den y) q v p u (L f) c i.value k)

pub once : (f : Format) (x : Float) (p u : ℕ) → Rounded f x p u (L f) → Rounded f x p u (1 * L f)
once f x p u i = subst (λ (z : ℕ). Rounded f x p u z) (sym (N.one-mul (L f))) i

-- ---- the halving point
abbrev pub half : Float
half = fin false 1 (negsuc 0)

-- twice a value, as a value of the format, where it does not overflow
module _ (f : Format) (s : Bool) (n : ℕ) (r : Rep f n) (small : n * 2 < overflow f) where
  twice : Float
  twice = round f s (n * 2) (L f)

  twice_units : Units f twice (P s (n * 2)) (M s (n * 2))
  unfolding twice
  twice_units = units_of_value f (round f s (n * 2) (L f)) s (n * 2) (rep_exact f s (n * 2) (rep_double f n r small))

  twice_fits : T (fits f twice)
  unfolding twice
  twice_fits = round-fits f s (n * 2) (L f)

  half_twice : Rounded f (mul f half twice) (1 * 1 * P s (n * 2)) (1 * 1 * M s (n * 2)) (2 * L f)
  half_twice = mul_units f 1 (negsuc 0) twice (P s (n * 2)) (M s (n * 2)) twice_units

pub mid_ge : (f : Format) (l r : Float) (i : Value f l) (j : Value f r) → T (fits f l) → i.count * 2 < overflow f → T (le l r) → T (le l (mul f half (add f l r)))
mid_ge f l r i j h small k =
    let s = i.sign in
    let n = i.count in
    let t = twice f s n i.rep small in
    let p = P s n in
    let u = M s n in
    let q = P j.sign j.count in
    let v = M j.sign j.count in
    let o : p + v ≤ q + u = units_of_le f l r p u q v i.units j.units k in
    let a : T (le t (add f l r)) =
    units_le_rounded f t (add f l r) (P s (n * 2)) (M s (n * 2)) (p + q) (u + v) 1 (lit< tt) (twice_fits f s n i.rep small) (twice_units f s n i.rep small)
    (once f (add f l r) (p + q) (u + v) (add_units f l r p u q v i.units j.units))
    (omega (arith, P_mul s n 2, M_mul s n 2, o)) in
    let b : T (le (mul f half t) (mul f half (add f l r))) = mul_mono f half t (add f l r) tt a in
    let c : T (le l (mul f half t)) =
    units_le_rounded f l (mul f half t) p u (1 * 1 * P s (n * 2)) (1 * 1 * M s (n * 2)) 2 (lit< tt) h i.units (half_twice f s n i.rep small) (omega (arith, P_mul s n 2, M_mul s n 2)) in
    le_trans l (mul f half t) (mul f half (add f l r)) c b

pub mid_le : (f : Format) (l r : Float) (i : Value f l) (j : Value f r) → T (fits f r) → j.count * 2 < overflow f → T (le l r) → T (le (mul f half (add f l r)) r)
mid_le f l r i j h small k =
    let s = j.sign in
    let n = j.count in
    let t = twice f s n j.rep small in
    let p = P i.sign i.count in
    let u = M i.sign i.count in
    let q = P s n in
    let v = M s n in
    let o : p + v ≤ q + u = units_of_le f l r p u q v i.units j.units k in
    let a : T (le (add f l r) t) =
    rounded_le_units f (add f l r) t (p + q) (u + v) 1 (P s (n * 2)) (M s (n * 2)) (lit< tt) (twice_fits f s n j.rep small) (twice_units f s n j.rep small)
    (once f (add f l r) (p + q) (u + v) (add_units f l r p u q v i.units j.units))
    (omega (arith, P_mul s n 2, M_mul s n 2, o)) in
    let b : T (le (mul f half (add f l r)) (mul f half t)) = mul_mono f half (add f l r) t tt a in
    let c : T (le (mul f half t) r) =
    rounded_le_units f (mul f half t) r (1 * 1 * P s (n * 2)) (1 * 1 * M s (n * 2)) 2 q v (lit< tt) h j.units (half_twice f s n j.rep small) (omega (arith, P_mul s n 2, M_mul s n 2)) in
    le_trans (mul f half (add f l r)) (mul f half t) r b c

-- ---- a clamped number lies between the two ends
pub clamp_ge : (x lo hi : Float) → T (num? x) → T (le lo hi) → T (le lo (clamp x lo hi))
unfolding clamp pick
clamp_ge x lo hi p h = go (lt x lo) (lt hi x) (total x lo p (le_num_l lo hi h))
  where
    go : (b c : Bool) → (T (not b) → T (le lo x)) → T (le lo (pick b lo (pick c hi x)))
    go true c k = le_refl_num lo (le_num_l lo hi h)
    go false true k = h
    go false false k = k tt

pub clamp_le : (x lo hi : Float) → T (num? x) → T (le lo hi) → T (le (clamp x lo hi) hi)
unfolding clamp pick
clamp_le x lo hi p h = go (lt x lo) (lt hi x) (total hi x (le_num_r lo hi h) p)
  where
    go : (b c : Bool) → (T (not c) → T (le x hi)) → T (le (pick b lo (pick c hi x)) hi)
    go true c k = h
    go false true k = le_refl_num hi (le_num_r lo hi h)
    go false false k = k tt

-- one that is a number is made of a number, where the ends are
pub clamp_num : (x lo hi : Float) → T (num? (clamp x lo hi)) → T (num? x)
unfolding clamp pick is_nan lt
clamp_num nan lo hi h = go hi h
  where
    go : (hi : Float) → T (num? (clamp nan lo hi)) → T (num? nan)
    go nan h = h
    go (inf s) h = h
    go (fin s m e) h = h
clamp_num (inf s) lo hi h = tt
clamp_num (fin s m e) lo hi h = tt

pub clamp_fits : (f : Format) (x lo hi : Float) → T (fits f x) → T (fits f lo) → T (fits f hi) → T (fits f (clamp x lo hi))
unfolding clamp
clamp_fits f x lo hi p q r = both (λ (z : Float). T (fits f z)) (lt x lo) q (both (λ (z : Float). T (fits f z)) (lt hi x) r p)

-- ---- lo = l + k * (r - l) and hi = r - k * (r - l), for a k = g / d up to an eighth
no_both : (D m : ℕ) → 0 < D → 0 + 0 ≡ D + m → ⊥
no_both D m h e = omega arith

pub rounded_plus : (f : Format) (x : Float) (D c : ℕ) → 0 < D → Rounded f x D 0 c → T (finite x) → Units f x (grid f D c) 0
rounded_plus f x D c h i k = go i.sign i.size i.made i.value
  where
    go : (s : Bool) (m : ℕ) → x ≡ round f s m c → P s m + 0 ≡ D + M s m → Units f x (grid f D c) 0
    go false m e v = let q : m ≡ D = omega arith in rounded_grid f x D 0 c (record { sign = false; size = D; made = e ∙ ap (λ (z : ℕ). round f false z c) q; value = refl }) k
    go true m e v = absurd (no_both D m h v)

-- 2 * T ≤ D, from T * d ≤ g * W * 2, W ≤ D * 2 and g * 8 ≤ d
room : (T' D W g d : ℕ) → 0 < d → T' * d ≤ g * W * 2 → W ≤ D * 2 → g * 8 ≤ d → T' * 2 ≤ D
room T' D W g d pos-d a b h = le_of_mul-le-mul_right {k = d} (N.le_trans (omega (arith, a)) (N.le_trans (mul-le-mul_left (g * 4) b) (omega (arith, mul-le-mul_right D h)))) pos-d

lift_le : (K d x : ℕ) → d ≤ x → d * K ≤ x * K
lift_le K d x h = mul-le-mul_right K h

module _ (f : Format) (l r : Float) (pl ul pr ur D : ℕ) (il : Units f l pl ul) (ir : Units f r pr ur) (diff : pr + ul ≡ D + (pl + ur)) (some : 0 < D) (fw : T (finite (sub f r l))) where
  pub width_rounded : Rounded f (sub f r l) D 0 (L f)
  width_rounded = rounded_rescale f (sub f r l) (pr + ul) (ur + pl) (L f) D 0 (L f) (L_pos f) (L_pos f) (sub_units f r l pr ur pl ul ir il) (omega (arith, ap (λ (z : ℕ). z * L f) diff))

  pub width_units : Units f (sub f r l) (grid f D (L f)) 0
  width_units = rounded_plus f (sub f r l) D (L f) some width_rounded fw

  pub width_le : grid f D (L f) ≤ D * 2
  width_le = le_of_mul-le-mul_right {k = L f} (N.le_trans (grid_twice f D (L f) (L_pos f) (N.le_trans (le_of_eq (sym (N.one-mul (L f)))) (mul-le-mul_right (L f) some)))
      (le_of_eq (mul_right_comm D (L f) 2))) (L_pos f)

  module _ (g : ℕ) (e : ℤ) (G : 0 < g * up e) (eighth : g * up e * 8 ≤ down e) (wide : down e ≤ g * up e * grid f D (L f)) (ft : T (finite (mul f (fin false g e) (sub f r l)))) where
    part_rounded : Rounded f (mul f (fin false g e) (sub f r l)) (g * up e * grid f D (L f)) 0 (down e * L f)
    part_rounded = subst (λ (z : ℕ). Rounded f (mul f (fin false g e) (sub f r l)) (g * up e * grid f D (L f)) z (down e * L f)) (N.mul-zero (g * up e))
        (mul_units f g e (sub f r l) (grid f D (L f)) 0 width_units)

    pub part_units : Units f (mul f (fin false g e) (sub f r l)) (grid f (g * up e * grid f D (L f)) (down e * L f)) 0
    part_units = rounded_plus f (mul f (fin false g e) (sub f r l)) (g * up e * grid f D (L f)) (down e * L f) (N.lt_of_lt_of_le (down_pos e) wide) part_rounded ft

    part_le : grid f (g * up e * grid f D (L f)) (down e * L f) * 2 ≤ D
    part_le =
        let t = grid f (g * up e * grid f D (L f)) (down e * L f) in
        let w = grid f D (L f) in
        let a : t * (down e * L f) ≤ g * up e * w * L f * 2 = grid_twice f (g * up e * w) (down e * L f) (mul-pos (down_pos e) (L_pos f)) (lift_le (L f) (down e) (g * up e * w) wide) in
        let b : t * down e ≤ g * up e * w * 2 = le_of_mul-le-mul_right {k = L f} (N.le_trans (le_of_eq (mul_assoc t (down e) (L f))) (N.le_trans a (le_of_eq (mul_right_comm (g * up e * w) (L f) 2))))
        (L_pos f) in
        room t D w (g * up e) (down e) (down_pos e) b width_le eighth

    pub ends_le : T (le (add f l (mul f (fin false g e) (sub f r l))) (sub f r (mul f (fin false g e) (sub f r l))))
    ends_le =
        let m = mul f (fin false g e) (sub f r l) in
        let t = grid f (g * up e * grid f D (L f)) (down e * L f) in
        rounded_le f (add f l m) (sub f r m) (pl + t) (ul + 0) (L f) (pr + 0) (ur + t) (L f) (L_pos f) (L_pos f) (add_units f l m pl ul t 0 il part_units) (sub_units f r m pr ur t 0 ir part_units)
        (ends_room pl ul pr ur D t (L f) diff part_le)
      where
        ends_room : (pl ul pr ur D t K : ℕ) → pr + ul ≡ D + (pl + ur) → t * 2 ≤ D → (pl + t) * K + (ur + t) * K ≤ (pr + 0) * K + (ul + 0) * K
        ends_room pl ul pr ur D t K a b = omega (arith, ap (λ (z : ℕ). z * K) a, mul-le-mul_right K b)
