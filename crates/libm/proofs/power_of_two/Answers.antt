-- `libm::power_of_two` meets its contract: the exponent's field is below that of an infinity. Assumes nothing.
use Rattle.std.proofs.Common.{◌*◌, not, T, ℤ, nat_abs, sym, ap, subst, arith, w64, Fits}
use lib.Ieee.{binary64, of_bits, nan_bits}
use lib.Signed.{non_neg}
use Rattle.float64.proofs.Laws.{under_nan}
use Rattle.libm.specs.Exp.{power_of_two}
use Rattle.libm.proofs.Whole.{field_back, field_fits, field_low}
use Rattle.libm.proofs.power_of_two.Goals as goal

pub overflow_add-result : goal.overflow_add-result
overflow_add-result c = field_fits c.args.k c.requires

pub overflow_cast-result : goal.overflow_cast-result
overflow_cast-result c =
    let low = field_low c.args.k c.requires in
    subst (λ (z : ℤ). T (non_neg z) × Fits w64 (nat_abs z)) (sym (field_back c.args.k c.requires)) (tt, record { fits = omega arith })

pub overflow_mul-result : goal.overflow_mul-result
overflow_mul-result c =
    let low = field_low c.args.k c.requires in
    subst (λ (z : ℤ). Fits w64 (nat_abs z * 0x10_0000_0000_0000)) (sym (field_back c.args.k c.requires)) (record { fits = omega arith })

pub float_from_bits-result : goal.float_from_bits-result
float_from_bits-result c =
    let low = field_low c.args.k c.requires in
    subst (λ (z : ℤ). T (not (nan_bits binary64 (nat_abs z * 0x10_0000_0000_0000)))) (sym (field_back c.args.k c.requires)) (under_nan _ (omega arith))

pub returns : goal.returns
unfolding power_of_two
returns c = ap (λ (z : ℤ). of_bits binary64 (nat_abs z * 0x10_0000_0000_0000)) (field_back c.args.k c.requires)
