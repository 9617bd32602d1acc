-- `population_focei_2d::next_reduction` meets its contract: what is left from a turn on is the answer. Assumes nothing.
use Rattle.std.proofs.Common.{◌≡◌}
use Rattle.mode_2d.proofs.Paths.{next_from}
use Rattle.mode_2d.proofs.population_focei_2d.next_reduction.Given as goal

abbrev pub invariant-loop-reduction : goal.invariant-loop-reduction
invariant-loop-reduction l = next_from l.eta_bound l.step l.reduction ≡ next_from l.eta_bound l.step l.from
