-- `part` meets its contract. Assumes nothing.
use Rattle.std.proofs.Common.{refl}
use Rattle.cache.specs.Cache.{part}
use Rattle.cache.proofs.part.Goals as goal

pub returns : goal.returns
unfolding part
returns c = refl
