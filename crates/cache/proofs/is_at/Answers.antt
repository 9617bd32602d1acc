-- `is_at` meets its contract. Assumes nothing.
use Rattle.std.proofs.Common.{ne_eqb, ◌∙◌}
use Rattle.cache.proofs.Paths.{looked_at, not_looked_at}
use Rattle.cache.proofs.is_at.Goals as goal

pub returns-then-read-bits : goal.returns-then-read-bits
returns-then-read-bits c = looked_at _ _ _ _ _ (rw c.modulo.ensures at c.read.ensures) c.if-read-bits.true c.entry_place.ensures.0 c.is_same.ensures

pub returns-else-read-bits : goal.returns-else-read-bits
returns-else-read-bits c = ne_eqb _ _ c.if-read-bits.false ∙ not_looked_at _ _ _ _ _ (rw c.modulo.ensures at c.read.ensures) c.if-read-bits.false
