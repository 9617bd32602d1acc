-- `admit_awaited` meets its contract: its parts, put together. Assumes nothing.
use Rattle.session.proofs.Replies.{awaited_by}
use Rattle.session.proofs.checks.admit_awaited.Goals as goal

pub returns : goal.returns
returns c =
    awaited_by _ _ c.with_parameters-own.ensures c.fit_of-fit.ensures _ _ _ _ c.awaited_point-wanted.ensures
    c.checks.ensures c.awaited_for.ensures
