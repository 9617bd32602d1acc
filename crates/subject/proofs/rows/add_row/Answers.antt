-- `add_row` meets its contract: each exit by its law. Assumes nothing.
use Rattle.subject.proofs.Turns.{terms_added, row_refused}
use Rattle.subject.proofs.rows.add_row.Goals as goal

pub returns-in-Ok : goal.returns-in-Ok
returns-in-Ok c = terms_added _ _ _ _ _ c.row_terms.ensures c.in-Ok.is c.with_terms.ensures

pub returns-in-Err : goal.returns-in-Err
returns-in-Err c = row_refused _ _ _ _ _ c.row_terms.ensures c.in-Err.is c.number.ensures
