-- `begin_objective` meets its contract: each case by its law. Assumes nothing.
use Rattle.machine.specs.Machine.{on}
use Rattle.population.specs.Kept.{words}
use Rattle.search.proofs.Fits.{own_fit}
use Rattle.session.specs.Calls.{held_of, run}
use Rattle.session.specs.Session.{begun}
use Rattle.session_calls.proofs.Paths.{refused_called, lets_in, keeps_out, objective_enters, objective_starts}
use Rattle.session_calls.proofs.begin_objective.Goals as goal

pub returns-in-Ok : goal.returns-in-Ok
returns-in-Ok c =
    let h = held_of c.args.state c.args.tally c.args.cache.now c.args.work.now c.args.warm.now c.args.results.now in
    lets_in (λ x. run c.args.setup c.args.counts.now x) h (on (begun words c.args.setup c.args.counts.now c.args.parameters h.whole))
    (objective_enters c.args.setup c.args.counts.now c.args.observations c.args.check c.args.parameters c.args.state c.args.tally
    c.args.cache.now c.args.work.now c.args.warm.now c.args.results.now c.lent_by-lent.ensures c.admit_objective.ensures)
    c.in-Ok.is
    (objective_starts c.args.setup c.args.counts.now c.args.observations c.args.check c.args.parameters c.args.state c.args.tally
    c.args.cache.now c.args.work.now c.args.warm.now c.args.results.now (own_fit c.args.setup c.args.parameters
    c.with_parameters-own.ensures c.fit_of-fit.ensures)
    c.start_of-here.ensures c.run.ensures)

pub returns-in-Err : goal.returns-in-Err
returns-in-Err c =
    let h = held_of c.args.state c.args.tally c.args.cache.now c.args.work.now c.args.warm.now c.args.results.now in
    refused_called c.args.state c.args.tally _ c.args.cache.now c.args.work.now c.args.warm.now c.args.results.now c.kept_out.ensures
    (keeps_out (λ x. run c.args.setup c.args.counts.now x) h (on (begun words c.args.setup c.args.counts.now c.args.parameters h.whole))
    (objective_enters c.args.setup c.args.counts.now c.args.observations c.args.check c.args.parameters c.args.state c.args.tally
    c.args.cache.now c.args.work.now c.args.warm.now c.args.results.now c.lent_by-lent.ensures c.admit_objective.ensures)
    c.in-Err.is)
