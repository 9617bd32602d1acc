-- `is_same_row` meets its contract: each exit by its law. Assumes nothing.
use Rattle.std.proofs.Common.{◌∙◌}
use Rattle.work.proofs.Paths.{same_time, other_time}
use Rattle.work.proofs.is_same_row.Goals as goal

pub returns-then-time-other : goal.returns-then-time-other
returns-then-time-other c =
    same_time _ _ _ c.read.ensures c.from_word-time.ensures c.read-2.ensures c.from_word-other.ensures
    c.if-time-other.true c.read-then-time-other.ensures c.read-then-time-other-2.ensures

pub returns-else-time-other : goal.returns-else-time-other
returns-else-time-other c =
    c.if-time-other.false
    ∙ other_time _ _ _ c.read.ensures c.from_word-time.ensures c.read-2.ensures c.from_word-other.ensures
    c.if-time-other.false
