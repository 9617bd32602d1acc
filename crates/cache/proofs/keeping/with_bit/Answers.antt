-- `with_bit` meets its contract: each exit by its law. Assumes nothing.
use Rattle.cache.proofs.KeepingPaths.{begins_anew, one_bit_more}
use Rattle.cache.proofs.keeping.with_bit.Goals as goal

pub returns-then-latest-oldest : goal.returns-then-latest-oldest
returns-then-latest-oldest c = begins_anew _ _ _ _ c.requires.bit_bound c.if-latest-oldest.true

pub returns-else-latest-oldest : goal.returns-else-latest-oldest
returns-else-latest-oldest c = one_bit_more _ _ _ _ c.requires.bit_bound c.requires.filter_lt_half c.if-latest-oldest.false
