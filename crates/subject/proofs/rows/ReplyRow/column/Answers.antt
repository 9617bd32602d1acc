-- `ReplyRow::column` meets its contract. Assumes nothing.
use Rattle.std.proofs.Common.{arith}
use Rattle.subject.proofs.RowsPaths.{last_block}
use Rattle.subject.specs.Reply.{column}
use Rattle.subject.proofs.rows.ReplyRow.column.Goals as goal

pub overflow_mul-before : goal.overflow_mul-before
overflow_mul-before c = omega (arith, last_block c.args.self.now.trial.width c.args.block c.requires)

pub overflow_add-self-2 : goal.overflow_add-self-2
overflow_add-self-2 c = omega (arith, last_block c.args.self.now.trial.width c.args.block c.requires)

pub overflow_add-self-3 : goal.overflow_add-self-3
overflow_add-self-3 c = omega (arith, last_block c.args.self.now.trial.width c.args.block c.requires)

pub returns : goal.returns
unfolding column
returns c = c.read.ensures
