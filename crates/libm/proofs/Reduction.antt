-- exp's reduction: for x from -16 to 16, x / ln 2 ± 0.5 lies between -24 and 24, and so does k. Assumes nothing.
use Rattle.std.proofs.Common.{ℕ, zero, suc, ◌-◌, ◌*◌, ◌/◌, ◌^◌, ◌<◌, ◌≤◌, min, true, false, T, ℤ, pos, neg_ℤ, lt_of_le_of_lt, div-lt_iff_lt-mul, arith, lit<}
use native.Mathlib.Nat.{min-le_left}
use lib.Signed.{mag}
use lib.Ieee.{Float, nan, inf, fin, binary64, of_bits, up, down, add, sub, mul, neg, le, lt, to_signed}
use lib.Ieee.Fits.{down_pos}
use lib.Ieee.Scale.{finite}
use Rattle.float64.specs.Arithmetic.{half, edge}
use Rattle.float64.specs.Pick.{both}
use Rattle.float64.proofs.Order.{le→cross, le_trans, le_lt_trans, between_finite}
use Rattle.float64.proofs.Monotone.{mul_mono, add_keeps}
use Rattle.libm.specs.Exp.{invln2, Within, multiple}

-- 24
abbrev most : Float
most = fin false 3 (pos 3)

-- t from -24 to 24
pub record Reduced (t : Float) : Type 0 where
  pub low : T (le (neg most) t)
  pub high : T (le t most)

-- what is added, h, may be 0.5 or -0.5: the two ends are computed
sum_reduced : (h x : Float) → T (finite h) → T (le (neg most) (add binary64 (mul binary64 invln2 (neg edge)) h))
    → T (le (add binary64 (mul binary64 invln2 edge) h) most) → Within x → Reduced (add binary64 (mul binary64 invln2 x) h)
unfolding of_bits neg mul
sum_reduced h x f low high w =
    let m = mul binary64 invln2 x in
    let lo = mul binary64 invln2 (neg edge) in
    let hi = mul binary64 invln2 edge in
    let down : T (le lo m) = mul_mono binary64 invln2 (neg edge) x tt w.low in
    let up : T (le m hi) = mul_mono binary64 invln2 x edge tt w.high in
    let g : T (finite m) = between_finite lo m hi tt tt down up in
    record {
      low = le_trans (neg most) (add binary64 lo h) (add binary64 m h) low (add_keeps binary64 lo m h h tt g f f (le→cross lo m tt g down) (omega arith));
      high = le_trans (add binary64 m h) (add binary64 hi h) most (add_keeps binary64 m hi h h g tt f f (le→cross m hi g tt up) (omega arith)) high;
    }

pub plus_half : (x : Float) → Within x → Reduced (add binary64 (mul binary64 invln2 x) half)
unfolding of_bits neg add mul le
plus_half x w = sum_reduced half x tt tt tt w

pub less_half : (x : Float) → Within x → Reduced (sub binary64 (mul binary64 invln2 x) half)
unfolding of_bits neg sub mul le
less_half x w = sum_reduced (neg half) x tt tt tt w

-- ---- what such a t is cut to
cut_low : (n d q : ℕ) → 0 < d → n * 1 ≤ 24 * d → min (n / d) q < 1000
cut_low n d q D h = lt_of_le_of_lt (min-le_left (n / d) q) ((div-lt_iff_lt-mul D).1 (omega arith))

mag_neg : (n : ℕ) → n < 1000 → mag (neg_ℤ (pos n)) < 1000
mag_neg zero h = h
mag_neg (suc n) h = omega arith

pub cut_small : (t : Float) → Reduced t → mag (to_signed 63 t) < 1000
unfolding to_signed le neg
cut_small nan r = absurd r.low
cut_small (inf true) r = absurd r.low
cut_small (inf false) r = absurd r.high
cut_small (fin false m e) r = cut_low (m * up e) (down e) (2 ^ 63 - 1) (down_pos e) (let h = le→cross (fin false m e) most tt tt r.high in omega arith)
cut_small (fin true m e) r = mag_neg (min (m * up e / down e) (2 ^ 63)) (cut_low (m * up e) (down e) (2 ^ 63) (down_pos e) (let h = le→cross (neg most) (fin true m e) tt tt r.low in omega arith))

-- so the cut is defined
pub cut_asks : (t : Float) → Reduced t → T (le (fin true 1 (pos 63)) t) × T (lt t (fin false 1 (pos 63)))
unfolding le neg lt
cut_asks t r = (le_trans (fin true 1 (pos 63)) (neg most) t tt r.low, le_lt_trans t most (fin false 1 (pos 63)) r.high tt)

pub multiple_small : (x : Float) (hx : ℕ) → Within x → mag (multiple x hx) < 1000
unfolding multiple
multiple_small x hx w =
    both (λ (k : ℤ). mag k < 1000) _ (both (λ (k : ℤ). mag k < 1000) _ (lit< tt) (lit< tt))
    (both (λ (k : ℤ). mag k < 1000) _ (cut_small _ (less_half x w)) (cut_small _ (plus_half x w)))
