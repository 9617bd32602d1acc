-- `is_same_grid` meets its contract: each turn and each exit by its law. Assumes nothing.
use Rattle.std.proofs.Common.{◌≡◌}
use Prim.Native.Nat.{◌-◌}
use Rattle.work.specs.Work.{same_from}
use Rattle.work.proofs.is_same_grid.Given as goal

abbrev pub invariant-loop-i : goal.invariant-loop-i
invariant-loop-i l = same_from (l.i-end - l.i) l.work l.rows l.i ≡ same_from l.i-end l.work l.rows 0
