-- `libm::difference` meets its contract: the difference is below 2^32, so it fits and a float holds it. Assumes nothing.
use Rattle.std.proofs.Common.{ap, arith}
use lib.Ieee.{binary64, of_int}
use Rattle.libm.proofs.Whole.{minus_fits, minus_float, minus_back}
use Rattle.libm.proofs.difference.Goals as goal

pub overflow_sub-result : goal.overflow_sub-result
overflow_sub-result c = minus_fits c.args.a c.args.b (omega arith) (omega arith)

pub int_to_float-result : goal.int_to_float-result
int_to_float-result c = minus_float c.args.a c.args.b (omega arith) (omega arith)

pub returns : goal.returns
returns c = ap (of_int binary64) (minus_back c.args.a c.args.b (omega arith) (omega arith))
