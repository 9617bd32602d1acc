-- `marked::inverse` is proved: its checks are facts of the table. Assumes nothing.
use borrow.Author.Tests.{eq-eqb}
use Rattle.std.proofs.Common.{ap, ◌∙◌}
use Rattle.test_marked.proofs.Table.{marked}
use Rattle.test_marked.proofs.Laws.{entry_word}
use Rattle.test_exports.specs.Leaves.{exists, inverse_or, det_or}
use lib.Ieee.{binary64, of_bits, to_bits}
use Rattle.test_marked.proofs.inverse.Goals as goal

pub expect-requires : goal.expect-requires
unfolding exists
expect-requires c = c.curlewstand_inverse_positive.ensures.value ∙ ap exists marked.inverse

pub expect-requires-2 : goal.expect-requires-2
unfolding inverse_or of_bits to_bits
expect-requires-2 c = eq-eqb _ _ (c.to_word.ensures ∙ entry_word 0 0 _ _ _ _ c.curlewstand_inverse_positive.ensures.inverse_after marked.inverse)

pub expect-requires-3 : goal.expect-requires-3
unfolding inverse_or of_bits to_bits
expect-requires-3 c = eq-eqb _ _ (c.to_word-2.ensures ∙ entry_word 0 1 _ _ _ _ c.curlewstand_inverse_positive.ensures.inverse_after marked.inverse)

pub expect-requires-4 : goal.expect-requires-4
unfolding inverse_or of_bits to_bits
expect-requires-4 c = eq-eqb _ _ (c.to_word-3.ensures ∙ entry_word 1 0 _ _ _ _ c.curlewstand_inverse_positive.ensures.inverse_after marked.inverse)

pub expect-requires-5 : goal.expect-requires-5
unfolding inverse_or of_bits to_bits
expect-requires-5 c = eq-eqb _ _ (c.to_word-4.ensures ∙ entry_word 1 1 _ _ _ _ c.curlewstand_inverse_positive.ensures.inverse_after marked.inverse)

pub expect-requires-6 : goal.expect-requires-6
unfolding det_or of_bits to_bits
expect-requires-6 c = eq-eqb _ _ (c.to_word-5.ensures ∙ ap (to_bits binary64) (c.curlewstand_inverse_positive.ensures.det_after ∙ ap (det_or _) marked.inverse))
