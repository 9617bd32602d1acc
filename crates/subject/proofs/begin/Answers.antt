-- `begin` meets its contract: each exit by its law. Assumes nothing.
use Rattle.std.proofs.Common.{length, arith}
use Rattle.subject.proofs.Paths.{values_within, not_whole, over_budget, within_budget}
use Rattle.subject.proofs.begin.Goals as goal

pub returns-then-reply-words-ne0 : goal.returns-then-reply-words-ne0
returns-then-reply-words-ne0 c = not_whole _ _ _ _ c.row_length-words.ensures c.if-reply-words-ne0.true

pub overflow_mul-reply : goal.overflow_mul-reply
overflow_mul-reply c = omega (arith, values_within (length c.args.reply.now) c.row_length-words.result c.output_values.result (omega arith))

pub returns-then-output_budget-reply : goal.returns-then-output_budget-reply
returns-then-output_budget-reply c = over_budget _ _ _ _ c.row_length-words.ensures c.if-reply-words-ne0.false c.output_values.ensures c.if-output_budget-reply.true

pub returns : goal.returns
returns c = within_budget _ _ _ _ c.row_length-words.ensures c.if-reply-words-ne0.false c.output_values.ensures c.if-output_budget-reply.false
