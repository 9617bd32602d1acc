-- exp, as in musl 1.1.20's exp.c, operation by operation, on -16..16.
use Rattle.std.specs.Prelude.{ℕ, ◌*◌, ◌/◌, ◌%◌, ◌^◌, T, ℤ, pos, negsuc, ◌+ℤ◌, nat_le, nat_lt, to_bits, unsigned_abs, Float}
use Rattle.std.specs.Float.{nan, binary64}
use Rattle.std.specs.Float.Ieee.{to_signed, of_int, le, lt, neg}
use Rattle.float64.specs.Arithmetic.{◌+ᶠ◌, ◌-ᶠ◌, ◌*ᶠ◌, ◌/ᶠ◌, word, half, one, two, edge}
use Rattle.float64.specs.Pick.{pick}
use Rattle.libm.specs.Constants.{ln2hi, ln2lo}

-- 1.44269504088896338700e+00
abbrev pub invln2 : Float
invln2 = word 0x3ff7_1547_652b_82fe

-- 1.66666666666666019037e-01, -2.77777777770155933842e-03, 6.61375632143793436117e-05, -1.65339022054652515390e-06,
-- 4.13813679705723846039e-08
abbrev pub P1 : Float
P1 = word 0x3fc5_5555_5555_553e

abbrev pub P2 : Float
P2 = word 0xbf66_c16c_16be_bd93

abbrev pub P3 : Float
P3 = word 0x3f11_566a_af25_de2c

abbrev pub P4 : Float
P4 = word 0xbebb_bd41_c5d2_6bf1

abbrev pub P5 : Float
P5 = word 0x3e66_3769_72be_a4d0

-- exp of x = hi - lo, for an x of the primary range
unfoldable pub exp_primary : Float → Float → Float → Float
exp_primary x hi lo =
    let xx = x *ᶠ x in
    let c = x -ᶠ xx *ᶠ (P1 +ᶠ xx *ᶠ (P2 +ᶠ xx *ᶠ (P3 +ᶠ xx *ᶠ (P4 +ᶠ xx *ᶠ P5)))) in
    one +ᶠ (x *ᶠ c /ᶠ (two -ᶠ c) -ᶠ lo +ᶠ hi)

-- 2^k, by its exponent's field
unfoldable pub power_of_two : ℤ → Float
power_of_two k = word (unsigned_abs (pos 1023 +ℤ k) * 2 ^ 52)

-- exp of x with k times ln 2 taken out of it, then times 2^k
unfoldable pub exp_around : Float → ℤ → Float
exp_around x k =
    let dk = of_int binary64 k in
    let hi = x -ᶠ dk *ᶠ ln2hi in
    let lo = dk *ᶠ ln2lo in
    exp_primary (hi -ᶠ lo) hi lo *ᶠ power_of_two k

-- k: with hx the high word of |x|, ±1 below 1.5 ln 2, else x / ln 2 ± 0.5 cut toward zero, the sign being x's
unfoldable pub multiple : Float → ℕ → ℤ
multiple x hx =
    pick (nat_lt hx 0x3ff0_a2b2) (pick (lt x (word 0)) (negsuc 0) (pos 1))
    (pick (lt x (word 0)) (to_signed 63 (invln2 *ᶠ x -ᶠ half)) (to_signed 63 (invln2 *ᶠ x +ᶠ half)))

-- as far as the largest eta_bound goes on either side of 0, both ends included
pub record Within (x : Float) : Type 0 where
  pub low : T (le (neg edge) x)
  pub high : T (le x edge)

-- the three ranges: up to 2^-28, up to 0.5 ln 2, and beyond
unfoldable pub exp_within : Float → Float
exp_within x =
    let hx = to_bits binary64 x / 2 ^ 32 % 2 ^ 31 in
    pick (nat_le hx 0x3e30_0000) (one +ᶠ x)
    (pick (nat_le hx 0x3fd6_2e42) (exp_primary x x (word 0)) (exp_around x (multiple x hx)))

-- outside -16..16, and for a NaN, NaN
unfoldable pub exp : Float → Float
exp x = pick (le (neg edge) x) (pick (le x edge) (exp_within x) nan) nan
