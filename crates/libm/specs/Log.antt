-- log, as in musl 1.1.20's log.c, operation by operation.
use Rattle.std.specs.Prelude.{ℕ, ◌+◌, ◌-◌, ◌*◌, ◌/◌, ◌%◌, ◌^◌, true, ◌==◌, nat_le, nat_lt, to_bits, Float}
use Rattle.std.specs.Float.{nan, inf, binary64}
use Rattle.std.specs.Float.Ieee.{of_int, minus}
use Rattle.float64.specs.Arithmetic.{◌+ᶠ◌, ◌-ᶠ◌, ◌*ᶠ◌, ◌/ᶠ◌, word, half, one, two}
use Rattle.float64.specs.Pick.{pick}
use Rattle.libm.specs.Constants.{ln2hi, ln2lo}

-- 6.666666666666735130e-01, 3.999999999940941908e-01, 2.857142874366239149e-01, 2.222219843214978396e-01,
-- 1.818357216161805012e-01, 1.531383769920937332e-01, 1.479819860511658591e-01
abbrev pub Lg1 : Float
Lg1 = word 0x3fe5_5555_5555_5593

abbrev pub Lg2 : Float
Lg2 = word 0x3fd9_9999_9997_fa04

abbrev pub Lg3 : Float
Lg3 = word 0x3fd2_4924_9422_9359

abbrev pub Lg4 : Float
Lg4 = word 0x3fcc_71c5_1d8e_78af

abbrev pub Lg5 : Float
Lg5 = word 0x3fc7_4664_96cb_03de

abbrev pub Lg6 : Float
Lg6 = word 0x3fc3_9a09_d078_c69f

abbrev pub Lg7 : Float
Lg7 = word 0x3fc2_f112_df3e_5244

-- the polynomial at z = s², with w = z²
unfoldable pub remainder : Float → Float
remainder z =
    let w = z *ᶠ z in
    let t1 = w *ᶠ (Lg2 +ᶠ w *ᶠ (Lg4 +ᶠ w *ᶠ Lg6)) in
    let t2 = z *ᶠ (Lg1 +ᶠ w *ᶠ (Lg3 +ᶠ w *ᶠ (Lg5 +ᶠ w *ᶠ Lg7))) in
    t2 +ᶠ t1

-- log of 2^k · x, for an x from √2/2 to √2
unfoldable pub log_around : Float → Float → Float
log_around dk x =
    let f = x -ᶠ one in
    let hfsq = half *ᶠ f *ᶠ f in
    let s = f /ᶠ (two +ᶠ f) in
    let R = remainder (s *ᶠ s) in
    s *ᶠ (hfsq +ᶠ R) +ᶠ dk *ᶠ ln2lo -ᶠ hfsq +ᶠ f +ᶠ dk *ᶠ ln2hi

-- log of the float of the word w, taken up by 2^up before: k and the float of the mantissa, by the base √2/2 (high word 0x3fe6a09e)
unfoldable pub log_of_word : ℕ → ℕ → Float
log_of_word w up =
    let hx = w / 2 ^ 32 + (0x3ff0_0000 - 0x3fe6_a09e) in
    let k = minus (hx / 2 ^ 20) (0x3ff + up) in
    log_around (of_int binary64 k) (word ((hx % 2 ^ 20 + 0x3fe6_a09e) * 2 ^ 32 + w % 2 ^ 32))

-- zero gives minus infinity, below zero NaN, infinity and NaN themselves, 1 gives 0; a subnormal is taken up by 2^54
unfoldable pub log : Float → Float
log x =
    let w = to_bits binary64 x in
    pick (w % 0x8000_0000_0000_0000 == 0) (inf true)
    (pick (nat_le 0x8000_0000_0000_0000 w) nan
    (pick (nat_le 0x7ff0_0000_0000_0000 w) x
    (pick (w == 0x3ff0_0000_0000_0000) (word 0)
    (pick (nat_lt w 0x0010_0000_0000_0000) (log_of_word (to_bits binary64 (x *ᶠ word 0x4350_0000_0000_0000)) 54)
    (log_of_word w 0)))))
