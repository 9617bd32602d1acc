-- `raised` meets its contract. Assumes nothing.
use Rattle.std.proofs.Common.{refl, le-ltb, lt-ltb}
use Rattle.float64.specs.Pick.{yes, no}
use Rattle.cache.specs.Cache.{raised}
use Rattle.cache.proofs.keeping.raised.Goals as goal

pub returns-then-n-saturating_sub : goal.returns-then-n-saturating_sub
unfolding raised
returns-then-n-saturating_sub c = rw (← c.saturating_sub.ensures) (yes _ (lt-ltb _ _ c.if-n-saturating_sub.true) refl)

pub returns-else-n-saturating_sub : goal.returns-else-n-saturating_sub
unfolding raised
returns-else-n-saturating_sub c = rw (← c.saturating_sub.ensures) (no _ (le-ltb _ _ c.if-n-saturating_sub.false) refl)
