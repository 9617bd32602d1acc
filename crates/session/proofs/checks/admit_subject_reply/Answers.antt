-- `admit_subject_reply` meets its contract: its parts, put together. Assumes nothing.
use Rattle.session.proofs.Replies.{subject_awaited_lem, subject_reply}
use Rattle.session.proofs.checks.admit_subject_reply.Goals as goal

pub returns : goal.returns
returns c =
    let awaited = subject_awaited_lem _ _ c.with_parameters-own.ensures c.fit_of-fit.ensures _ _ _ _ c.awaited_point-wanted.ensures
    c.subject_checks-admission.ensures c.awaited_for-awaited.ensures in
    subject_reply _ _ _ _ _ _ _ c.rows_of-rows.ensures c.trial_by-trial.ensures awaited c.admitted_over.ensures
