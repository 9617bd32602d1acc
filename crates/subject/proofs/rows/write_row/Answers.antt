-- `write_row` meets its contract: each exit by its law. Assumes nothing.
use Rattle.std.proofs.Common.{arith}
use Rattle.subject.proofs.RowsPaths.{nothing_written, row_written}
use Rattle.subject.proofs.rows.write_row.Goals as goal

pub returns-then-work-block : goal.returns-then-work-block
returns-then-work-block c = nothing_written _ _ _ _ (omega arith)

pub returns-then-work-observation : goal.returns-then-work-observation
returns-then-work-observation c = nothing_written _ _ _ _ (omega arith)

pub returns : goal.returns
returns c = row_written _ _ _ _ c.put.ensures c.put-2.ensures c.put-3.ensures
