-- `reply_checked` meets its contract: what its three parts answered, put together.
use Rattle.observations.proofs.Replied.{replied_over_lem}
use Rattle.observations.proofs.reply_checked.Goals as goal

pub returns : goal.returns
returns c =
    let a = c.args in
    replied_over_lem a.alone _ a.counts.now a.observations.now a.check a.tally a.state.now a.answer.now a.cache.now a.work.now a.warm.now a.results.now
    a.reply.now c.admit-admitted.ensures.1 c.admit-admitted.ensures.0 c.evaluate-evaluation.ensures c.finish_reply.ensures
