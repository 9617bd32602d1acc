-- `curlewstand_subject_reply` meets its contract: what its parts answered, put together.
use Rattle.curlewstand_subject_reply.proofs.Paths.{subject_replied}
use Rattle.curlewstand_subject_reply.proofs.curlewstand_subject_reply.Goals as goal

pub returns : goal.returns
returns c =
    let a = c.args in
    rw (c.keep_tally.ensures, ← c.tally_now-before.ensures.0)
    (subject_replied _ a.counts.now a.observations.now c.tally_now-before.result a.state.now a.answer.now a.cache.now a.work.now a.warm.now a.results.now
    a.reply.now c.subject_first-first.ensures.1 c.subject_first-first.ensures.0 c.check_subject-check.ensures c.reply_checked-taken.ensures)
