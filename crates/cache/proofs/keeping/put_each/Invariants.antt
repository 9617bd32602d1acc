-- `put_each` meets its contract: each turn by its law. Assumes nothing.
use Rattle.std.proofs.Common.{◌≡◌, ◌+◌, ◌-◌, ◌%◌, length}
use Rattle.cache.specs.Cache.{put_ring}
use Rattle.cache.proofs.keeping.put_each.Given as goal

abbrev pub invariant-loop-value : goal.invariant-loop-value
invariant-loop-value l =
    (put_ring (length l.values - l.value-index) l.words l.base l.c l.start l.values 0 l.value-index
    ≡ put_ring (length l.values) l.initial.words l.base l.c l.start l.values 0 0)
    × (l.at ≡ (l.start + l.value-index) % l.c)
    × (length l.words ≡ length l.initial.words)
