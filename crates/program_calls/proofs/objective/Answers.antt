-- `objective` meets its contract: the parts put together are the session's call. Assumes nothing.
use Rattle.program_calls.proofs.RecordedCallsPaths.{begins}
use Rattle.program_calls.proofs.objective.Goals as goal

pub returns : goal.returns
returns c =
    begins c.args.setup c.args.counts.now c.args.observations.now c.args.state c.args.tally c.args.cache.now c.args.work.now c.args.warm.now
    c.args.results.now c.check_words-check.ensures c.count_of-n.ensures c.args.parameters c.begin_objective.ensures
