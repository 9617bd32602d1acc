-- `copy_rows` meets its contract: each exit by its law. Assumes nothing.
use Rattle.std.proofs.Common.{arith}
use Rattle.cache.proofs.Paths.{room_says}
use Rattle.cache.proofs.EntriesPaths.{copies_no_room, copies_too_many, copies_not_lent, copies_past_end, copies}
use Rattle.cache.proofs.entries.copy_rows.Goals as goal

pub returns-then-k-n : goal.returns-then-k-n
returns-then-k-n c = copies_too_many _ _ _ _ _ _ c.is_room.ensures c.if-not-is_room.false c.if-k-n.true

pub overflow_mul-k : goal.overflow_mul-k
overflow_mul-k c = let room = room_says _ c.is_room.ensures c.if-not-is_room.false in omega arith

pub returns-then-words-k : goal.returns-then-words-k
returns-then-words-k c = copies_not_lent _ _ _ _ _ _ c.is_room.ensures c.if-not-is_room.false c.if-k-n.false c.if-words-k.true

pub copy_words-requires : goal.copy_words-requires
copy_words-requires c =
    let said = room_says _ c.is_room.ensures c.if-not-is_room.false in
    (said.0, said.1, omega arith, omega arith, omega arith)

pub returns-then-n-out : goal.returns-then-n-out
returns-then-n-out c = copies _ _ _ _ _ _ c.is_room.ensures c.if-not-is_room.false c.if-k-n.false c.if-words-k.false (omega arith) c.copy_words.ensures

pub returns-else-n-out : goal.returns-else-n-out
returns-else-n-out c = copies_past_end _ _ _ _ _ _ c.is_room.ensures c.if-not-is_room.false c.if-k-n.false c.if-words-k.false (omega arith)

pub returns-then-out-to : goal.returns-then-out-to
returns-then-out-to c = copies_past_end _ _ _ _ _ _ c.is_room.ensures c.if-not-is_room.false c.if-k-n.false c.if-words-k.false (omega arith)

pub returns-then-not-is_room : goal.returns-then-not-is_room
returns-then-not-is_room c = copies_no_room _ _ _ _ _ _ c.is_room.ensures c.if-not-is_room.true
