-- `entry_words` meets its contract. Assumes nothing.
use Rattle.std.proofs.Common.{refl}
use Rattle.cache.specs.Cache.{entry_words}
use Rattle.cache.proofs.keeping.entry_words.Goals as goal

pub returns : goal.returns
unfolding entry_words
returns c = refl
