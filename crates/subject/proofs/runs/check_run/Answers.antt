-- `check_run` meets its contract: each turn checks the first of those that are left, and none is left at the end.
use Rattle.std.proofs.Common.{ap, sym, ◌∙◌, arith}
use Rattle.subject.specs.Observations.{check_observations as checks}
use Rattle.subject.proofs.Rest.{part, none_left, checks_next, part_end}
use Rattle.subject.proofs.runs.check_run.Goals as goal

pub loop-i-preserved : goal.loop-i-preserved
loop-i-preserved g c =
    let a = c.args in
    let items = g.R.Run.items a.run in
    let within = part_end items a.to c.count.ensures c.smaller-end.ensures in
    checks_next a.width a.counts.now items c.loop-i.i c.smaller-end.result _ c.loop-i-test.true within
    (c.at-observation.ensures (omega (arith, c.loop-i-test.true, within))) c.check_observation-checked.ensures ∙ c.loop-i.invariant

pub returns : goal.returns
returns g c =
    let a = c.args in
    let items = g.R.Run.items a.run in
    sym (ap (λ os. checks a.width a.counts.now os c.loop-i.checked) (none_left items c.loop-i.i c.smaller-end.result c.loop-i-test.false))
    ∙ c.loop-i.invariant
    ∙ ap (λ os. checks a.width a.counts.now os a.check) (part items a.from a.to c.count.ensures c.smaller-end.ensures)
