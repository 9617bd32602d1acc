-- `copy_run` meets its contract: each turn by its law. Assumes nothing.
use Rattle.std.proofs.Common.{refl, ◌∙◌, length-set}
use Rattle.cache.proofs.Runs.{run_end, run_step}
use Rattle.cache.proofs.copy_run.Goals as goal

pub loop-i-preserved : goal.loop-i-preserved
loop-i-preserved c =
    let so_far = c.loop-i.invariant in
    (run_step _ _ _ _ _ _ c.loop-i-test.true refl ∙ so_far.0, simp length-set so_far.1)

pub shape_of-out : goal.shape_of-out
shape_of-out c = c.loop-i.invariant.1

pub returns : goal.returns
returns c = run_end _ _ _ _ _ _ c.loop-i-test.false ∙ c.loop-i.invariant.0
