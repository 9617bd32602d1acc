-- `marked::infinite_prediction_2d` is proved: its check is a fact of the table. Assumes nothing.
use borrow.Author.Tests.{eq-eqb}
use Rattle.std.proofs.Common.{ap, ◌∙◌}
use Rattle.float64.specs.Answer.{number_of}
use Rattle.test_marked.proofs.Table.{marked}
use lib.Ieee.{nan_bits, of_bits}
use mathlib.Core.Bool.{false}
use Rattle.test_marked.proofs.infinite_prediction_2d.Goals as goal

pub float_from_bits-infinity : goal.float_from_bits-infinity
unfolding nan_bits
float_from_bits-infinity c = tt

pub expect-requires : goal.expect-requires
unfolding number_of of_bits
expect-requires c = eq-eqb _ _ (c.curlewstand_add_row-number.ensures.value ∙ ap number_of (marked.infinite_prediction_2 _ _ _ false))
