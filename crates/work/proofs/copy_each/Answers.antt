-- `copy_each` meets its contract: each turn by its law. Assumes nothing.
use Rattle.std.proofs.Common.{◌∙◌}
use Rattle.work.proofs.Paths.{copy_end, copy_step}
use Rattle.work.proofs.copy_each.Goals as goal

pub loop-i-preserved : goal.loop-i-preserved
loop-i-preserved c =
    let so_far = c.loop-i.invariant in
    (copy_step _ _ _ _ _ c.loop-i-test.true c.read-word.ensures c.put.ensures ∙ so_far.0, c.put.auto.words ∙ so_far.1)

pub returns : goal.returns
returns c = copy_end _ _ _ _ _ c.loop-i-test.false ∙ c.loop-i.invariant.0
