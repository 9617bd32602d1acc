-- The check of the observations that are still to be checked, from what has been found so far, is the check of all.
use Rattle.std.proofs.Common.{◌≡◌, ◌-◌, take, drop}
use Rattle.subject.specs.Observations.{check_observations}
use Rattle.subject.proofs.runs.check_run.Given as goal

abbrev pub invariant-loop-i : goal.invariant-loop-i
invariant-loop-i g l =
    let items = g.R.Run.items l.run in
    check_observations l.width l.counts (take (l.end - l.i) (drop l.i items)) l.checked
    ≡ check_observations l.width l.counts (take (l.end - l.from) (drop l.from items)) l.fn.check
