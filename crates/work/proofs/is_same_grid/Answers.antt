-- `is_same_grid` meets its contract: each turn and each exit by its law. Assumes nothing.
use Rattle.std.proofs.Common.{◌≡◌, arith, ◌∙◌}
use Rattle.words.specs.Words.{smaller}
use Rattle.work.specs.Work.{most_rows}
use Rattle.work.proofs.Paths.{rows_end, rows_step, rows_differ, grid}
use Rattle.work.proofs.is_same_grid.Goals as goal

pub loop-i-preserved : goal.loop-i-preserved
loop-i-preserved c =
    rows_step _ _ _ _ c.loop-i-test.true c.block-population.ensures c.block-best.ensures c.is_same_row.ensures c.if-not-is_same_row.false
    ∙ c.loop-i.invariant

pub returns-then-not-is_same_row : goal.returns-then-not-is_same_row
returns-then-not-is_same_row c =
    let n : c.min-i-end.result ≡ smaller c.args.rows most_rows = omega arith in
    grid _ _ n
    (rows_differ _ _ _ _ c.loop-i-test.true c.block-population.ensures c.block-best.ensures c.is_same_row.ensures c.if-not-is_same_row.true
    ∙ c.loop-i.invariant)

pub returns : goal.returns
returns c =
    let n : c.min-i-end.result ≡ smaller c.args.rows most_rows = omega arith in
    grid _ _ n (rows_end _ _ _ _ c.loop-i-test.false ∙ c.loop-i.invariant)
