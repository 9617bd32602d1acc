-- `population_focei_2d::Search2::advance` meets its contract: each turn by its law. Assumes nothing.
use Rattle.std.proofs.Common.{refl}
use Rattle.mode_2d.proofs.Paths.{advanced}
use Rattle.mode_2d.proofs.population_focei_2d.Search2.advance.Goals as goal

pub returns-in-FirstStart : goal.returns-in-FirstStart
returns-in-FirstStart c = advanced _ _ _ c.turn_after.ensures c.in-FirstStart.is c.between.ensures

pub returns-in-Rounds : goal.returns-in-Rounds
returns-in-Rounds c = advanced _ _ _ c.turn_after.ensures c.in-Rounds.is c.go_on.ensures

pub returns-in-Ended : goal.returns-in-Ended
returns-in-Ended c = advanced _ _ _ c.turn_after.ensures c.in-Ended.is refl
