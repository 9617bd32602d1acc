-- `failure` meets its contract: the parts put together are the session's call. Assumes nothing.
use Rattle.program_calls.proofs.RecordedCallsPaths.{fails}
use Rattle.program_calls.proofs.failure.Goals as goal

pub returns : goal.returns
returns c =
    fails c.args.setup c.args.counts.now c.args.observations.now c.args.state c.args.tally c.args.cache.now c.args.work.now c.args.warm.now c.args.results.now
    c.check_words-check.ensures c.count_of-n.ensures c.fail.ensures
