-- ln 2 in two parts, of log.c and of exp.c.
use Rattle.std.specs.Prelude.{Float}
use Rattle.float64.specs.Arithmetic.{word}

-- 6.93147180369123816490e-01
abbrev pub ln2hi : Float
ln2hi = word 0x3fe6_2e42_fee0_0000

-- 1.90821492927058770002e-10
abbrev pub ln2lo : Float
ln2lo = word 0x3dea_39ef_3579_3c76
