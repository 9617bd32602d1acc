-- `finish_reply` meets its contract: each case by its law. Assumes nothing.
use Rattle.host_calls.proofs.Paths.{finish_given, finish_none}
use Rattle.host_calls.proofs.replies.finish_reply.Goals as goal

pub returns : goal.returns
returns c =
    finish_given c.args.counts.now c.args.admitted.awaited c.args.evaluation c.args.tally
    c.args.state.now c.args.answer.now c.args.cache.now c.args.work.now c.args.warm.now c.args.results.now
    c.load.ensures c.in-Some.is c.finish_reply-finished.ensures c.told.ensures

pub returns-in_default : goal.returns-in_default
returns-in_default c =
    finish_none c.args.counts.now c.args.admitted.awaited c.args.evaluation c.args.tally
    c.args.state.now c.args.answer.now c.args.cache.now c.args.work.now c.args.warm.now c.args.results.now
    c.load.ensures c.in_default.is c.no_state.ensures
