-- `admit_reply` meets its contract: its parts, put together. Assumes nothing.
use Rattle.session.proofs.Replies.{whole_reply}
use Rattle.session.proofs.checks.admit_reply.Goals as goal

pub returns : goal.returns
returns c =
    whole_reply _ _ _ _ _ _ _ c.rows_of-rows.ensures c.trial_by-trial.ensures c.admit_awaited-awaited.ensures
    c.end_of-to.ensures c.admitted_over.ensures
