-- `head_of` meets its contract. Assumes nothing.
use Rattle.std.proofs.Common.{refl}
use Rattle.cache.specs.Cache.{head_of}
use Rattle.cache.proofs.head_of.Goals as goal

pub returns : goal.returns
unfolding head_of
returns c = refl
