-- `marked::exp_and_log` is proved: its checks are facts of the table. Assumes nothing.
use borrow.Author.Tests.{eq-eqb}
use Rattle.std.proofs.Common.{ap, ◌∙◌}
use Rattle.test_marked.proofs.Table.{marked}
use lib.Ieee.{binary64, of_bits, to_bits}
use Rattle.test_marked.proofs.exp_and_log.Goals as goal

pub expect-requires : goal.expect-requires
unfolding of_bits to_bits
expect-requires c = eq-eqb _ _ (c.to_word.ensures ∙ ap (to_bits binary64) (c.curlewstand_exp.ensures ∙ marked.exp_zero))

pub expect-requires-2 : goal.expect-requires-2
unfolding of_bits to_bits
expect-requires-2 c = eq-eqb _ _ (c.to_word-2.ensures ∙ ap (to_bits binary64) (c.curlewstand_log.ensures ∙ marked.log_one))
