-- `copy_run` meets its contract: each turn by its law. Assumes nothing.
use Rattle.std.proofs.Common.{◌≡◌, ◌-◌, length}
use Rattle.cache.specs.Cache.{copy_run}
use Rattle.cache.proofs.copy_run.Given as goal

abbrev pub invariant-loop-i : goal.invariant-loop-i
invariant-loop-i l = (copy_run (l.n - l.i) l.words l.from l.out l.to l.i ≡ copy_run l.n l.words l.from l.initial.out l.to 0) × (length l.out ≡ length l.initial.out)
