-- `row_length` meets its contract. Assumes nothing.
use Rattle.std.proofs.Common.{arith}
use Rattle.subject.proofs.Paths.{values_fit}
use Rattle.subject.proofs.row_length.Goals as goal

pub overflow_add-result : goal.overflow_add-result
overflow_add-result c = omega (arith, c.output_values.ensures, values_fit c.args.width c.args.effects (omega arith) (omega arith))
