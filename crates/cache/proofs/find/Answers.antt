-- `find` meets its contract: each exit by its law. Assumes nothing.
use Rattle.std.proofs.Common.{refl}
use Rattle.cache.proofs.Paths.{room_says, find_no_room, find_none, find_too_many, find_filtered, find_walks}
use Rattle.cache.proofs.find.Goals as goal

pub returns-then-most-eq0 : goal.returns-then-most-eq0
returns-then-most-eq0 c = find_none _ _ _ _ c.is_room.ensures c.if-not-is_room.false c.saturating_sub-most.ensures c.if-most-eq0.true

pub returns-then-k-most : goal.returns-then-k-most
returns-then-k-most c = find_too_many _ _ _ _ c.is_room.ensures c.if-not-is_room.false c.saturating_sub-most.ensures c.if-k-most.true

pub head_of-requires : goal.head_of-requires
head_of-requires c = (room_says _ c.is_room.ensures c.if-not-is_room.false).1

pub walk-requires : goal.walk-requires
walk-requires c = room_says _ c.is_room.ensures c.if-not-is_room.false

pub returns-then-not-has_bit : goal.returns-then-not-has_bit
returns-then-not-has_bit c =
    find_filtered _ _ _ _ c.is_room.ensures c.if-not-is_room.false c.saturating_sub-most.ensures c.if-k-most.false c.hash-hash.ensures
    c.head_of.ensures c.read-head.ensures c.has_bit.ensures c.if-not-has_bit.true

pub returns-then-not-is_room : goal.returns-then-not-is_room
returns-then-not-is_room c = find_no_room _ _ _ _ c.is_room.ensures c.if-not-is_room.true

pub returns : goal.returns
returns c =
    find_walks _ _ _ _ c.is_room.ensures c.if-not-is_room.false c.saturating_sub-most.ensures c.if-k-most.false c.hash-hash.ensures
    c.head_of.ensures
    c.read-head.ensures c.has_bit.ensures c.if-not-has_bit.false refl c.walk.ensures
