-- `count_observations` meets its contract: each turn and each exit by its law. Assumes nothing.
use Rattle.std.proofs.Common.{◌∙◌, arith}
use Rattle.setup.specs.Admission.{count_observations}
use Rattle.setup.proofs.Paths.{all_counted, counts_none, counts_too_many, counts_on, larger_of}
use Rattle.setup.proofs.checks.count_observations.Goals as goal

pub returns-then-count-eq0 : goal.returns-then-count-eq0
unfolding count_observations
returns-then-count-eq0 c = counts_none _ _ _ _ c.loop-count-test.true c.if-count-eq0.true ∙ c.loop-count.invariant.0

pub returns-then-total-count : goal.returns-then-total-count
unfolding count_observations
returns-then-total-count c = counts_too_many _ _ _ _ c.loop-count-test.true c.if-count-eq0.false c.if-total-count.true ∙ c.loop-count.invariant.0

pub loop-count-preserved : goal.loop-count-preserved
loop-count-preserved c =
    let so_far = c.loop-count.invariant in (
      counts_on _ _ _ _ c.loop-count-test.true c.if-count-eq0.false c.if-total-count.false
          (larger_of _ _ c.max-largest.ensures)
          ∙ so_far.0,
      omega arith,
    )

pub returns : goal.returns
unfolding count_observations
returns c = all_counted _ _ _ _ c.loop-count-test.false ∙ c.loop-count.invariant.0
