-- `marked::proportional_row` is proved: its checks are facts of the table. Assumes nothing.
use borrow.Author.Tests.{eq-eqb}
use Rattle.std.proofs.Common.{ap, ◌∙◌}
use Rattle.test_marked.proofs.Table.{marked}
use Rattle.test_marked.proofs.Laws.{term_word}
use Rattle.float64.specs.Answer.{number_of}
use Rattle.test_exports.specs.Leaves.{terms_or}
use lib.Ieee.{of_bits, to_bits}
use Rattle.test_marked.proofs.proportional_row.Goals as goal

pub expect-requires : goal.expect-requires
unfolding number_of
expect-requires c = eq-eqb _ _ (c.curlewstand_row_terms-number.ensures.value ∙ ap number_of marked.proportional_row)

pub expect-requires-2 : goal.expect-requires-2
unfolding terms_or of_bits to_bits
expect-requires-2 c = eq-eqb _ _ (c.to_word.ensures ∙ term_word 1 _ _ _ _ c.curlewstand_row_terms-number.ensures.terms_after marked.proportional_row)

pub expect-requires-3 : goal.expect-requires-3
unfolding terms_or of_bits to_bits
expect-requires-3 c = eq-eqb _ _ (c.to_word-2.ensures ∙ term_word 2 _ _ _ _ c.curlewstand_row_terms-number.ensures.terms_after marked.proportional_row)
