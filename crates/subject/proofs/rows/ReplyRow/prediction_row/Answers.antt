-- `ReplyRow::prediction_row` meets its contract: each exit by its law. Assumes nothing.
use Rattle.subject.proofs.RowsPaths.{pre_kept, post_kept}
use Rattle.subject.proofs.rows.ReplyRow.prediction_row.Goals as goal

pub returns-then-read-eq0 : goal.returns-then-read-eq0
returns-then-read-eq0 c = pre_kept _ _ _ _ c.column-prediction.ensures c.read-time.ensures c.read.ensures c.if-read-eq0.true

pub returns-else-read-eq0 : goal.returns-else-read-eq0
returns-else-read-eq0 c = post_kept _ _ _ _ c.column-prediction.ensures c.read-time.ensures c.read.ensures c.if-read-eq0.false
