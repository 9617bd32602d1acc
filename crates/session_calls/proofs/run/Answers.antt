-- `run` meets its contract: the loop of the step, with the objective's parameters held. Assumes nothing.
use Rattle.population.specs.Kept.{cache_of}
use Rattle.population.specs.Steps.{whole_from}
use Rattle.session_calls.proofs.Paths.{ran_in}
use Rattle.session_calls.proofs.run.Goals as goal

pub returns : goal.returns
returns c =
    ran_in c.args.fit c.args.counts.now c.args.state.parameters
    (whole_from c.args.fit c.args.counts.now c.args.hand c.args.state.progress c.args.tally (cache_of c.args.cache.now c.args.state.order) c.args.work.now
    c.args.warm.now c.args.results.now) c.requests-halted.ensures
