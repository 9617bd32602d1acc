-- `through_kept` meets its contract, by that of its number of effects. Assumes nothing.
use Rattle.population.proofs.kept_points.through_kept.Goals as goal

pub through_kept_by-requires : goal.through_kept_by-requires
through_kept_by-requires c = (c.if-fit-eq2.true, c.settings_2d-settings.ensures)

pub through_kept_by-requires-2 : goal.through_kept_by-requires-2
through_kept_by-requires-2 c = (c.if-fit-eq2.false, c.settings-settings.ensures)

pub returns-then-fit-eq2 : goal.returns-then-fit-eq2
returns-then-fit-eq2 c = rw (← c.rows_of-rows.ensures) c.through_kept_by.ensures

pub returns : goal.returns
returns c = rw (← c.rows_of-rows.ensures) c.through_kept_by-2.ensures
