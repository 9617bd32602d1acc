-- `write_fitted` meets its contract: each turn by its law. Assumes nothing.
use Rattle.std.proofs.Common.{◌≡◌, arith, ◌∙◌}
use Rattle.words.specs.Words.{smaller}
use Rattle.work.specs.Work.{most_rows}
use Rattle.work.proofs.ResultsPaths.{fitted_end, fitted_step, fitted}
use Rattle.work.proofs.results.write_fitted.Goals as goal

pub loop-i-preserved : goal.loop-i-preserved
loop-i-preserved c =
    let so_far = c.loop-i.invariant in (
      fitted_step _ _ _ _ _ _ c.loop-i-test.true c.block-population.ensures c.block-best.ensures c.read.ensures c.put.ensures c.read-in-loop-i.ensures
          c.put-in-loop-i.ensures
          ∙ so_far.0,
      c.put-in-loop-i.auto.words ∙ c.put.auto.words ∙ so_far.1,
    )

pub returns : goal.returns
returns c =
    let n : c.min-i-end.result ≡ smaller c.args.rows most_rows = omega arith in
    fitted _ _ _ _ _ n c.fitted_at-at.ensures (fitted_end _ _ _ _ _ _ c.loop-i-test.false ∙ c.loop-i.invariant.0)
