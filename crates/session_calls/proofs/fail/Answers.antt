-- `fail` meets its contract: each case by its law. Assumes nothing.
use Rattle.search.specs.declared.Place.TheVariants.{Subject}
use Rattle.population.specs.Kept.{words}
use Rattle.session.specs.Calls.{held_of, run}
use Rattle.session.specs.Session.{over}
use Rattle.session_calls.proofs.Paths.{refused_called, ended_called, lets_in, keeps_out, failure_enters}
use Rattle.session_calls.proofs.fail.Goals as goal

pub returns-in-Ok : goal.returns-in-Ok
returns-in-Ok c =
    let h = held_of c.args.state c.args.tally c.args.cache.now c.args.work.now c.args.warm.now c.args.results.now in
    let e = c.ended_as.ensures in
    lets_in (λ x. run c.args.setup c.args.counts.now x) h (over words 8 (Subject c.args.state.progress.subject) h)
    (failure_enters c.args.setup c.args.counts.now c.args.observations c.args.check c.args.state c.args.tally c.args.cache.now c.args.work.now
    c.args.warm.now c.args.results.now
    c.lent_by-lent.ensures c.admit_awaited-awaited.ensures) c.in-Ok.is
    (ended_called _ c.args.state c.args.tally 8 (Subject c.args.state.progress.subject) c.args.cache.now c.args.work.now c.args.warm.now
    c.args.results.now e.0 e.1)

pub returns-in-Err : goal.returns-in-Err
returns-in-Err c =
    let h = held_of c.args.state c.args.tally c.args.cache.now c.args.work.now c.args.warm.now c.args.results.now in
    refused_called c.args.state c.args.tally _ c.args.cache.now c.args.work.now c.args.warm.now c.args.results.now c.kept_out.ensures
    (keeps_out (λ x. run c.args.setup c.args.counts.now x) h (over words 8 (Subject c.args.state.progress.subject) h)
    (failure_enters c.args.setup c.args.counts.now c.args.observations c.args.check c.args.state c.args.tally c.args.cache.now c.args.work.now
    c.args.warm.now c.args.results.now
    c.lent_by-lent.ensures c.admit_awaited-awaited.ensures) c.in-Err.is)
