-- `row_at` meets its contract: each exit by its law. Assumes nothing.
use Rattle.std.proofs.Common.{arith}
use Rattle.subject.proofs.RowsPaths.{row_within, no_such_output, no_such_row, row_there}
use Rattle.subject.proofs.rows.row_at.Goals as goal

pub returns-then-width-output : goal.returns-then-width-output
returns-then-width-output c = no_such_output _ _ _ _ _ c.if-width-output.true

pub returns-then-reply-words : goal.returns-then-reply-words
returns-then-reply-words c = no_such_row _ _ _ _ _ c.if-width-output.false c.row_length-words.ensures c.if-reply-words.true

pub overflow_mul-result : goal.overflow_mul-result
overflow_mul-result c = omega (arith, row_within _ _ _ c.if-reply-words.false)

pub returns : goal.returns
returns c = row_there _ _ _ _ _ c.if-width-output.false c.row_length-words.ensures c.if-reply-words.false
