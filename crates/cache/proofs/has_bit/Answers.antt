-- `has_bit` meets its contract. Assumes nothing.
use Rattle.std.proofs.Common.{rules}
use Rattle.cache.specs.Cache.{has_bit}
use Rattle.cache.proofs.has_bit.Goals as goal

pub returns : goal.returns
unfolding has_bit
returns c = search rules
