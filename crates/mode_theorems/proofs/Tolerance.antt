-- `eta_tolerance` of a gradient tolerance that is finite and above 0 lies in 1e-12..1e-8. Assumes nothing.
use lib.Dec.{T}
use lib.Ieee.{Float, binary64, of_bits, le, mul}
use lib.Ieee.Scale.{finite}
use Rattle.float64.proofs.Order.{num?}
use Rattle.float64.proofs.Numbers.{fin_mul_num}
use Rattle.float64.proofs.Bracket.{clamp_ge, clamp_le}
use Rattle.mode.specs.Rules.{eta_tolerance, tightest, loosest}

ends : T (le tightest loosest)
unfolding of_bits le
ends = tt

scaled : (g : Float) → T (finite g) → T (num? (mul binary64 g (of_bits binary64 0x3f1a_36e2_eb1c_432d)))
unfolding of_bits
scaled g h = fin_mul_num binary64 g _ h tt

pub tolerance_low_lem : (g : Float) → T (finite g) → T (le tightest (eta_tolerance g))
unfolding eta_tolerance
tolerance_low_lem g h = clamp_ge _ tightest loosest (scaled g h) ends

pub tolerance_high_lem : (g : Float) → T (finite g) → T (le (eta_tolerance g) loosest)
unfolding eta_tolerance
tolerance_high_lem g h = clamp_le _ tightest loosest (scaled g h) ends
