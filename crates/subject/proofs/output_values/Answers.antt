-- `output_values` meets its contract. Assumes nothing.
use Rattle.std.proofs.Common.{arith}
use Rattle.subject.proofs.Paths.{values_fit}
use Rattle.subject.proofs.output_values.Goals as goal

pub overflow_mul-result : goal.overflow_mul-result
overflow_mul-result c = omega (arith, values_fit c.args.width c.args.effects (omega arith) (omega arith))
