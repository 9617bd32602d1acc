-- `float64::to_word` meets its contract. Assumes nothing.
use Rattle.std.proofs.Common.{ap}
use lib.Ieee.{to_bits, binary64}
use Rattle.float64.proofs.Laws.{differs, not_nan}
use Rattle.float64.proofs.to_word.Goals as goal

pub returns-then-x : goal.returns-then-x
unfolding to_bits
returns-then-x c = ap (to_bits binary64) (differs c.args.x c.if-x.true)

pub float_to_bits-result : goal.float_to_bits-result
float_to_bits-result c = not_nan _ c.if-x.false
