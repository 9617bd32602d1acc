-- `copy_lent` meets its contract: each turn by its law. Assumes nothing.
use Rattle.std.proofs.Common.{refl, ◌∙◌}
use lib.ListN.{length-set}
use Rattle.work.proofs.Paths.{copy_end, copy_step}
use Rattle.work.proofs.copy_lent.Goals as goal

pub loop-i-preserved : goal.loop-i-preserved
loop-i-preserved c =
    let so_far = c.loop-i.invariant in
    (copy_step _ _ _ _ _ c.loop-i-test.true refl refl ∙ so_far.0, simp length-set so_far.1)

pub shape_of-work : goal.shape_of-work
shape_of-work c = c.loop-i.invariant.1

pub returns : goal.returns
returns c = copy_end _ _ _ _ _ c.loop-i-test.false ∙ c.loop-i.invariant.0
