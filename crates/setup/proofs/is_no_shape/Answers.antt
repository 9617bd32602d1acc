-- `is_no_shape` meets its contract: each exit by its law. Assumes nothing.
use Rattle.setup.proofs.Paths.{no_bound, no_tolerance, no_output, too_wide, none_kept, too_many_kept, shape}
use Rattle.setup.proofs.is_no_shape.Goals as goal

pub returns-then-is_beyond : goal.returns-then-is_beyond
returns-then-is_beyond c = no_bound _ c.is_beyond.ensures c.if-is_beyond.true

pub returns-then-is_no_tolerance : goal.returns-then-is_no_tolerance
returns-then-is_no_tolerance c = no_tolerance _ c.is_beyond.ensures c.if-is_beyond.false c.is_no_tolerance.ensures c.if-is_no_tolerance.true

pub returns-then-setup-eq0 : goal.returns-then-setup-eq0
returns-then-setup-eq0 c = no_output _ c.is_beyond.ensures c.if-is_beyond.false c.is_no_tolerance.ensures c.if-is_no_tolerance.false c.if-setup-eq0.true

pub returns-then-setup-gt64 : goal.returns-then-setup-gt64
returns-then-setup-gt64 c = too_wide _ c.is_beyond.ensures c.if-is_beyond.false c.is_no_tolerance.ensures c.if-is_no_tolerance.false c.if-setup-eq0.false c.if-setup-gt64.true

pub returns-then-setup-eq0-2 : goal.returns-then-setup-eq0-2
returns-then-setup-eq0-2 c = none_kept _ c.is_beyond.ensures c.if-is_beyond.false c.is_no_tolerance.ensures c.if-is_no_tolerance.false c.if-setup-eq0.false c.if-setup-gt64.false c.if-setup-eq0-2.true

pub returns-then-setup-gt-MOST_ROWS : goal.returns-then-setup-gt-MOST_ROWS
returns-then-setup-gt-MOST_ROWS c =
    too_many_kept _ c.is_beyond.ensures c.if-is_beyond.false c.is_no_tolerance.ensures c.if-is_no_tolerance.false c.if-setup-eq0.false c.if-setup-gt64.false c.if-setup-eq0-2.false
    c.if-setup-gt-MOST_ROWS.true

pub returns : goal.returns
returns c =
    shape _ c.is_beyond.ensures c.if-is_beyond.false c.is_no_tolerance.ensures c.if-is_no_tolerance.false c.if-setup-eq0.false c.if-setup-gt64.false c.if-setup-eq0-2.false
    c.if-setup-gt-MOST_ROWS.false c.is_no_override.ensures
