-- `evict` meets its contract: each turn and each exit by its law. Assumes nothing.
use Rattle.std.proofs.Common.{refl, ◌∙◌, arith}
use Rattle.cache.proofs.KeepingPaths.{evict_end, evict_fits, evict_more}
use Rattle.cache.proofs.keeping.evict.Goals as goal

pub returns-then-saturating_sub-room : goal.returns-then-saturating_sub-room
returns-then-saturating_sub-room c =
    evict_fits _ _ _ _ _ _ _ c.loop-oldest-test.true c.saturating_sub.ensures c.if-saturating_sub-room.true ∙ c.loop-oldest.invariant.0

pub loop-oldest-preserved : goal.loop-oldest-preserved
loop-oldest-preserved c = (
  evict_more _ _ _ _ _ _ _ c.loop-oldest-test.true c.saturating_sub.ensures c.if-saturating_sub-room.false
      c.entry_place.ensures.0 c.read-n.ensures refl c.raised-first_row.ensures
      ∙ c.loop-oldest.invariant.0,
  omega arith,
)

pub returns : goal.returns
returns c = evict_end _ _ _ _ _ _ _ (omega (arith, c.max.ensures)) c.loop-oldest-test.false ∙ c.loop-oldest.invariant.0
