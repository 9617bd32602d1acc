-- `write_fitted` meets its contract: each turn by its law. Assumes nothing.
use Rattle.std.proofs.Common.{◌≡◌}
use Prim.Native.Nat.{◌-◌}
use lib.ListN.{length}
use Rattle.work.specs.Work.{fitted_from}
use Rattle.work.proofs.results.write_fitted.Given as goal

abbrev pub invariant-loop-i : goal.invariant-loop-i
invariant-loop-i l = (fitted_from (l.i-end - l.i) l.at l.work l.rows l.i l.results ≡ fitted_from l.i-end l.at l.work l.rows 0 l.initial.results) × (length l.results ≡ length l.initial.results)
