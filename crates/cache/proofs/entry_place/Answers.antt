-- `entry_place` meets its contract. Assumes nothing.
use Rattle.std.proofs.Common.{refl, mod-lt, arith}
use Rattle.cache.specs.Cache.{entry_place}
use Rattle.cache.proofs.entry_place.Goals as goal

pub returns : goal.returns
unfolding entry_place
returns c = rw c.modulo.ensures (refl, omega (arith, mod-lt c.args.entry c.requires.0))
