-- `marked::no_variance` is proved: its check is a fact of the table. Assumes nothing.
use borrow.Author.Tests.{eq-eqb}
use Rattle.std.proofs.Common.{ap, ◌∙◌}
use Rattle.float64.specs.Answer.{number_of}
use Rattle.test_marked.proofs.Table.{marked}
use Rattle.test_marked.proofs.no_variance.Goals as goal

pub expect-requires : goal.expect-requires
unfolding number_of
expect-requires c = eq-eqb _ _ (c.curlewstand_row_terms-number.ensures.value ∙ ap number_of (marked.no_variance _ _))
