-- `marked::grid` is proved: its checks are facts of the table. Assumes nothing.
use borrow.Author.Tests.{eq-eqb}
use Rattle.std.proofs.Common.{ap, ◌∙◌}
use lib.Ieee.{binary64, of_bits, to_bits}
use Rattle.test_marked.proofs.Table.{marked}
use Rattle.test_marked.proofs.grid.Goals as goal

pub expect-requires : goal.expect-requires
unfolding of_bits to_bits
expect-requires c = eq-eqb _ _ (c.to_word.ensures ∙ ap (to_bits binary64) (c.asked_at.ensures ∙ marked.grid_first))

pub expect-requires-2 : goal.expect-requires-2
unfolding of_bits to_bits
expect-requires-2 c = eq-eqb _ _ (c.to_word-2.ensures ∙ ap (to_bits binary64) (c.asked_at-2.ensures ∙ marked.grid_middle))

pub expect-requires-3 : goal.expect-requires-3
unfolding of_bits to_bits
expect-requires-3 c = eq-eqb _ _ (c.to_word-3.ensures ∙ ap (to_bits binary64) (c.asked_at-3.ensures ∙ marked.grid_last))
