-- `fit` meets its contract. Assumes nothing.
use Rattle.focei_fit.proofs.Paths.{is_opened_lem, not_opened}
use Rattle.focei_fit.proofs.fit.Goals as goal

pub returns-in-Ok : goal.returns-in-Ok
returns-in-Ok c =
    let a = c.args in is_opened_lem a.input.now a.counts.now a.observations.now a.memory.now.cache a.memory.now.work a.memory.now.warm a.memory.now.results a.page.now
    c.settings.ensures
    c.open-opened.ensures c.in-Ok.is c.run-last.ensures c.told.ensures

pub returns-in-Err : goal.returns-in-Err
returns-in-Err c =
    let a = c.args in not_opened a.input.now a.counts.now a.observations.now a.memory.now.cache a.memory.now.work a.memory.now.warm a.memory.now.results
    a.page.now c.settings.ensures c.open-opened.ensures
    c.in-Err.is c.refused.ensures
