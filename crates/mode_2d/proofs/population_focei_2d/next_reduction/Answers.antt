-- `population_focei_2d::next_reduction` meets its contract: what is left from a turn on is the answer. Assumes nothing.
use Rattle.mode_2d.proofs.Paths.{passed_over, stops_here, all_passed, found_lem, none_lem}
use Rattle.mode_2d.proofs.population_focei_2d.next_reduction.Goals as goal

pub returns-then-not-is_passed_over : goal.returns-then-not-is_passed_over
returns-then-not-is_passed_over c =
    found_lem c.loop-reduction-test.true
    (stops_here _ _ _ c.loop-reduction-test.true c.is_passed_over.ensures c.if-not-is_passed_over.true c.loop-reduction.invariant)

pub loop-reduction-preserved : goal.loop-reduction-preserved
loop-reduction-preserved c = passed_over _ _ _ c.loop-reduction-test.true c.is_passed_over.ensures c.if-not-is_passed_over.false c.loop-reduction.invariant

pub returns : goal.returns
returns c = none_lem c.loop-reduction-test.false (all_passed _ _ _ c.loop-reduction-test.false c.loop-reduction.invariant)
