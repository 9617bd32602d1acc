-- `float64::from_word` meets its contract. Assumes nothing.
use lib.Ieee.{div, of_bits}
use Rattle.float64.proofs.Laws.{above_nan, under_nan}
use Rattle.float64.proofs.from_word.Goals as goal

pub returns-then-word-gt9218868437227405312 : goal.returns-then-word-gt9218868437227405312
unfolding div of_bits
returns-then-word-gt9218868437227405312 c = above_nan _ c.if-word-gt9218868437227405312.true

pub float_from_bits-result : goal.float_from_bits-result
float_from_bits-result c = under_nan _ c.if-word-gt9218868437227405312.false
