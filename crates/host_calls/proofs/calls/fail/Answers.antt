-- `fail` meets its contract: each case by its law. Assumes nothing.
use Rattle.host_calls.specs.Hosting.{setup_of}
use Rattle.host_calls.proofs.Paths.{failure_given, failure_none}
use Rattle.host_calls.proofs.calls.fail.Goals as goal

pub returns : goal.returns
returns c =
    failure_given (setup_of c.args.setup) c.args.counts.now c.args.observations c.args.check c.args.tally c.args.state.now c.args.answer.now
    c.args.cache.now c.args.work.now c.args.warm.now c.args.results.now c.load.ensures c.in-Some.is
    c.setup_of.ensures.0
    c.fail-failed.ensures c.told.ensures

pub returns-in_default : goal.returns-in_default
returns-in_default c =
    failure_none (setup_of c.args.setup)
    c.args.counts.now c.args.observations c.args.check c.args.tally c.args.state.now c.args.answer.now c.args.cache.now c.args.work.now c.args.warm.now
    c.args.results.now c.load.ensures c.in_default.is c.no_state.ensures
