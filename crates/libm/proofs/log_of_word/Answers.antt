-- `libm::log_of_word` meets its contract. Assumes nothing.
use Rattle.std.proofs.Common.{arith}
use Rattle.float64.proofs.Laws.{under_nan}
use Rattle.libm.proofs.log_of_word.Goals as goal

-- the high word of the part is below that of an infinity
pub float_from_bits-x : goal.float_from_bits-x
float_from_bits-x c = under_nan _ (omega arith)
