-- `copy_lent` meets its contract: each turn by its law. Assumes nothing.
use Rattle.std.proofs.Common.{◌≡◌}
use Prim.Native.Nat.{◌+◌, ◌-◌}
use lib.ListN.{length}
use Rattle.work.specs.Work.{copy_words}
use Rattle.work.proofs.copy_lent.Given as goal

abbrev pub invariant-loop-i : goal.invariant-loop-i
invariant-loop-i l = (copy_words (l.n - l.i) (l.from + l.i) (l.to + l.i) l.work ≡ copy_words l.n l.from l.to l.initial.work) × (length l.work ≡ length l.initial.work)
