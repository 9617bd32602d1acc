-- `count` meets its contract: each turn by its law. Assumes nothing.
use Rattle.focei_records.specs.Records.{count_from}
use Prim.Native.Nat.{◌+◌, ◌-◌, ◌≤◌}
use Rattle.std.proofs.Common.{◌≡◌}
use Rattle.focei_records.proofs.count.Given as goal

abbrev pub invariant-loop-i : goal.invariant-loop-i
invariant-loop-i l = (l.total + count_from (l.records - l.i) l.input l.i l.subject ≡ count_from l.records l.input 0 l.subject) × (l.total ≤ l.i)
