-- `observations` meets its contract: each turn by its law. Assumes nothing.
use Rattle.focei_records.specs.Records.{observations_from}
use Rattle.words.specs.Page.{with_items}
use Prim.Native.Nat.{◌-◌}
use Rattle.std.proofs.Common.{◌≡◌}
use Rattle.focei_records.proofs.observations.Given as goal

abbrev pub invariant-loop-i : goal.invariant-loop-i
invariant-loop-i l = with_items (observations_from (l.records - l.i) l.input l.i) l.page ≡ with_items (observations_from l.records l.input 0) l.initial.page
