-- `count_observations` meets its contract: each turn and each exit by its law. Assumes nothing.
use Rattle.std.proofs.Common.{◌≡◌}
use Prim.Native.Nat.{◌≤◌}
use lib.ListN.{drop}
use Rattle.setup.specs.Admission.{count_from}
use Rattle.setup.proofs.checks.count_observations.Given as goal

abbrev pub invariant-loop-count : goal.invariant-loop-count
invariant-loop-count l = (count_from l.total l.largest (drop l.count-index l.counts) ≡ count_from 0 0 l.counts) × (l.total ≤ 100000)
