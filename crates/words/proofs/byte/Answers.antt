-- `byte` meets its contract. Assumes nothing.
use Rattle.std.proofs.Common.{rules}
use Rattle.words.specs.Page.{with_items}
use Rattle.words.proofs.byte.Goals as goal

pub returns : goal.returns
unfolding with_items
returns c = search rules
