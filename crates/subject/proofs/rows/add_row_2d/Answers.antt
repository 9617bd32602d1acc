-- `add_row_2d` meets its contract: each exit by its law. Assumes nothing.
use Rattle.subject.proofs.Turns.{row_added, row_refused2}
use Rattle.subject.proofs.rows.add_row_2d.Goals as goal

pub returns-in-Ok : goal.returns-in-Ok
returns-in-Ok c = row_added _ _ _ _ c.row_variance.ensures c.in-Ok.is c.scaled_row-row.ensures c.with_row.ensures

pub returns-in-Err : goal.returns-in-Err
returns-in-Err c = row_refused2 _ _ _ _ c.row_variance.ensures c.in-Err.is c.number.ensures
