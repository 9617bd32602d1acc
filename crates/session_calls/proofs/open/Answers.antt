-- `open` meets its contract: each case by its law. Assumes nothing.
use Rattle.session_calls.proofs.Paths.{setup_opens, setup_refused}
use Rattle.session_calls.proofs.open.Goals as goal

pub returns-in-Ok : goal.returns-in-Ok
returns-in-Ok c =
    setup_opens c.args.setup c.args.counts.now c.args.observations c.args.check c.args.tally c.args.cache.now c.args.work.now
    c.args.warm.now c.args.results.now c.lent_by-lent.ensures
    c.checks.ensures
    c.in-Ok.is
    c.clear.ensures c.clear-in-Ok.ensures
    c.clear-in-Ok-2.ensures c.first_state.ensures

pub returns-in-Err : goal.returns-in-Err
returns-in-Err c =
    setup_refused c.args.setup c.args.counts.now
    c.args.observations c.args.check c.args.tally c.args.cache.now c.args.work.now c.args.warm.now c.args.results.now
    c.lent_by-lent.ensures c.checks.ensures c.in-Err.is c.refusal_of.ensures
