-- `subjects` meets its contract: each turn by its law. Assumes nothing.
use Rattle.focei_records.specs.Records.{cohort_from}
use Prim.Native.Nat.{◌-◌, ◌≤◌}
use Rattle.std.proofs.Common.{◌≡◌}
use Rattle.focei_records.proofs.subjects.Given as goal

abbrev pub invariant-loop-i : goal.invariant-loop-i
invariant-loop-i l = (cohort_from (l.records - l.i) l.input l.i l.subjects ≡ cohort_from l.records l.input 0 0) × (l.subjects ≤ l.i)
