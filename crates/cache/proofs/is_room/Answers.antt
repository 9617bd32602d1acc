-- `is_room` meets its contract. Assumes nothing.
use Rattle.std.proofs.Common.{refl, ap, not, eq-eqb, ne_eqb}
use Rattle.float64.specs.Pick.{yes, no}
use Rattle.cache.specs.Cache.{is_room}
use Rattle.cache.proofs.is_room.Goals as goal

pub returns-then-k-ne0 : goal.returns-then-k-ne0
unfolding is_room
returns-then-k-ne0 c = no _ (ne_eqb _ _ c.if-k-ne0.true) refl

pub returns-else-k-ne0 : goal.returns-else-k-ne0
unfolding is_room
returns-else-k-ne0 c = let z = eq-eqb _ _ c.if-k-ne0.false in yes _ z (ap not z)
