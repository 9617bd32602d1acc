-- `add_run` meets its contract: each turn adds the first of those that are left, and none is left at the end; after a refusal
-- none of those that are left is added.
use Rattle.std.specs.Prelude.{Ok}
use Rattle.std.proofs.Common.{◌-◌, take, drop, ap, sym, ◌∙◌, arith}
use Rattle.subject.specs.Subject.{Evaluation, evaluating, add_observations as added}
use Rattle.subject.proofs.Paths.{passed_on}
use Rattle.subject.proofs.Rest.{part, none_left, all_refused, turn_adds, turn_refused, part_end}
use Rattle.subject.proofs.runs.add_run.Goals as goal

pub returns-in_err-sums : goal.returns-in_err-sums
returns-in_err-sums g c =
    let a = c.args in
    let all = take (a.to - a.from) (drop a.from (g.R.Run.items a.run)) in
    ap (λ (e : Evaluation). evaluating e a.work.now) (passed_on _ c.from_residual.ensures.1)
    ∙ all_refused a.trial a.reply.now all a.work.now c.in_err-sums.was

pub loop-i-preserved : goal.loop-i-preserved
loop-i-preserved g c =
    let a = c.args in
    let items = g.R.Run.items a.run in
    let within = part_end items a.to c.count.ensures c.smaller-end.ensures in
    turn_adds a.trial a.reply.now items c.loop-i.i c.smaller-end.result _ _ _ c.loop-i-test.true within
    (c.at-observation.ensures (omega (arith, c.loop-i-test.true, within))) c.add_observation.ensures c.in_ok-sums-2.was ∙ c.loop-i.invariant

pub returns-in_err-sums-2 : goal.returns-in_err-sums-2
returns-in_err-sums-2 g c =
    let a = c.args in
    let items = g.R.Run.items a.run in
    let within = part_end items a.to c.count.ensures c.smaller-end.ensures in
    ap (λ (e : Evaluation). evaluating e c.add_observation.new.work) (passed_on _ c.from_residual-in_err-sums-2.ensures.1)
    ∙ turn_refused a.trial a.reply.now items c.loop-i.i c.smaller-end.result _ _ _ c.loop-i-test.true within
    (c.at-observation.ensures (omega (arith, c.loop-i-test.true, within))) c.add_observation.ensures c.in_err-sums-2.was
    ∙ c.loop-i.invariant
    ∙ ap (λ os. added a.trial a.reply.now os (evaluating a.evaluation a.work.now)) (part items a.from a.to c.count.ensures c.smaller-end.ensures)

pub returns : goal.returns
returns g c =
    let a = c.args in
    let items = g.R.Run.items a.run in
    sym (ap (λ os. added a.trial a.reply.now os (evaluating (Ok c.loop-i.sums) c.loop-i.work)) (none_left items c.loop-i.i c.smaller-end.result c.loop-i-test.false))
    ∙ c.loop-i.invariant
    ∙ ap (λ os. added a.trial a.reply.now os (evaluating a.evaluation a.work.now)) (part items a.from a.to c.count.ensures c.smaller-end.ensures)
