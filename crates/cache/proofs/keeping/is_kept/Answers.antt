-- `is_kept` meets its contract: each exit by its law. Assumes nothing.
use Rattle.std.proofs.Common.{arith, le-ltb, ◌∙◌}
use Rattle.cache.proofs.Paths.{room_says}
use Rattle.cache.proofs.KeepingPaths.{no_room, no_rows, too_many_rows, not_all_lent, too_many_entries, too_late, in_range}
use Rattle.cache.proofs.keeping.is_kept.Goals as goal

pub returns-then-n-eq0 : goal.returns-then-n-eq0
returns-then-n-eq0 c = no_rows _ _ _ _ _ c.is_room.ensures c.if-not-is_room.false c.if-n-eq0.true

pub returns-then-k-n : goal.returns-then-k-n
returns-then-k-n c = too_many_rows _ _ _ _ _ c.is_room.ensures c.if-not-is_room.false c.if-n-eq0.false c.if-k-n.true

pub returns-then-lent-from : goal.returns-then-lent-from
returns-then-lent-from c = not_all_lent _ _ _ _ _ c.is_room.ensures c.if-not-is_room.false c.if-n-eq0.false c.if-k-n.false (omega arith)

pub overflow_mul-n : goal.overflow_mul-n
overflow_mul-n c = let room = room_says _ c.is_room.ensures c.if-not-is_room.false in omega arith

pub returns-then-lent-from-2 : goal.returns-then-lent-from-2
returns-then-lent-from-2 c = not_all_lent _ _ _ _ _ c.is_room.ensures c.if-not-is_room.false c.if-n-eq0.false c.if-k-n.false (omega arith)

pub returns-then-k-saturating_sub : goal.returns-then-k-saturating_sub
returns-then-k-saturating_sub c =
    too_many_entries _ _ _ _ _ c.is_room.ensures c.if-not-is_room.false c.if-n-eq0.false c.if-k-n.false (omega arith)
    c.saturating_sub.ensures c.if-k-saturating_sub.true

pub returns-then-order-lt-ENTRY_NUMBERS : goal.returns-then-order-lt-ENTRY_NUMBERS
returns-then-order-lt-ENTRY_NUMBERS c =
    in_range _ _ _ _ _ c.is_room.ensures c.if-not-is_room.false c.if-n-eq0.false c.if-k-n.false (omega arith)
    c.saturating_sub.ensures c.if-k-saturating_sub.false c.if-order-lt-ENTRY_NUMBERS.true

pub returns-else-order-lt-ENTRY_NUMBERS : goal.returns-else-order-lt-ENTRY_NUMBERS
returns-else-order-lt-ENTRY_NUMBERS c =
    le-ltb _ _ c.if-order-lt-ENTRY_NUMBERS.false
    ∙ too_late _ _ _ _ _ c.is_room.ensures c.if-not-is_room.false c.if-n-eq0.false c.if-k-n.false (omega arith)
    c.saturating_sub.ensures c.if-k-saturating_sub.false c.if-order-lt-ENTRY_NUMBERS.false

pub returns-then-not-is_room : goal.returns-then-not-is_room
returns-then-not-is_room c = no_room _ _ _ _ _ c.is_room.ensures c.if-not-is_room.true
