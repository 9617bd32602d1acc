-- `at_mode` meets its contract: each exit by its law. Assumes nothing.
use Rattle.std.proofs.Common.{arith}
use Rattle.population.proofs.Paths.{rows_at_most, not_positive, other_grid, same_grid}
use Rattle.population.proofs.at_mode.Goals as goal

pub overflow_cast-rows : goal.overflow_cast-rows
overflow_cast-rows c = let most = rows_at_most _ _ c.rows_of-rows.ensures in omega arith

pub returns : goal.returns
returns c =
    same_grid _ _ _ _ _ _ _ c.rows_of-rows.ensures c.closed_by.ensures c.in-Some.is c.store_warm.ensures
    c.is_same_grid.ensures c.if-not-is_same_grid.false c.write_result.ensures c.write_fitted.ensures
    c.next_subject.ensures

pub returns-then-not-is_same_grid : goal.returns-then-not-is_same_grid
returns-then-not-is_same_grid c =
    other_grid _ _ _ _ _ _ _ c.rows_of-rows.ensures c.closed_by.ensures c.in-Some.is c.store_warm.ensures
    c.is_same_grid.ensures c.if-not-is_same_grid.true c.refused_here-then-not-is_same_grid.ensures

pub returns-in_default : goal.returns-in_default
returns-in_default c = not_positive _ _ _ _ _ _ _ c.rows_of-rows.ensures c.closed_by.ensures c.in_default.is c.refused_here.ensures
