-- `reply` meets its contract: the parts put together are the session's call. Assumes nothing.
use Rattle.program_calls.proofs.RecordedCallsPaths.{replies}
use Rattle.program_calls.proofs.reply.Goals as goal

pub returns : goal.returns
returns c =
    replies c.args.setup c.args.counts.now c.args.observations.now c.args.state c.args.tally c.args.cache.now c.args.work.now c.args.warm.now
    c.args.results.now c.check_words-check.ensures c.count_of-n.ensures c.args.reply.now _ _ c.add_words-evaluation.auto.work
    c.lent_by-lent.ensures c.admit_reply-admitted.ensures c.add_words-evaluation.ensures c.finish_reply.ensures
