-- The observations that are still to be added to what has been added make what all make.
use Rattle.std.specs.Prelude.{Ok}
use Rattle.std.proofs.Common.{◌≡◌, ◌-◌, take, drop}
use Rattle.subject.specs.Subject.{evaluating, add_observations}
use Rattle.subject.proofs.runs.add_run.Given as goal

abbrev pub invariant-loop-i : goal.invariant-loop-i
invariant-loop-i g l =
    let items = g.R.Run.items l.run in
    add_observations l.trial l.reply (take (l.end - l.i) (drop l.i items)) (evaluating (Ok l.sums) l.work)
    ≡ add_observations l.trial l.reply (take (l.end - l.from) (drop l.from items)) (evaluating l.fn.evaluation l.fn.work)
