-- `evict` meets its contract: each turn and each exit by its law. Assumes nothing.
use Rattle.std.proofs.Common.{◌≡◌, ◌-◌, ◌≤◌, max}
use Rattle.cache.specs.Cache.{evict}
use Rattle.cache.proofs.keeping.evict.Given as goal

abbrev pub invariant-loop-oldest : goal.invariant-loop-oldest
invariant-loop-oldest l =
    (evict (l.order.next - l.oldest) l.words l.k l.room l.order.next l.order.next_row l.oldest l.first_row
    ≡ evict (l.order.next - l.order.oldest) l.words l.k l.room l.order.next l.order.next_row l.order.oldest l.order.first_row)
    × (l.oldest ≤ max l.order.oldest l.order.next)
