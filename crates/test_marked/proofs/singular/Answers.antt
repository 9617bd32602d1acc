-- `marked::singular` is proved: its check is a fact of the table. Assumes nothing.
use mathlib.Core.Bool.{not}
use Rattle.std.proofs.Common.{ap, ◌∙◌}
use Rattle.test_marked.proofs.Table.{marked}
use Rattle.test_exports.specs.Leaves.{exists}
use Rattle.test_marked.proofs.singular.Goals as goal

pub expect-requires : goal.expect-requires
unfolding exists
expect-requires c = ap not (c.curlewstand_inverse_positive.ensures.value ∙ ap exists marked.singular)
