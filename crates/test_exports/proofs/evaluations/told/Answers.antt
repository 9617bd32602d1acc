-- `told` meets its contract: each exit by its law. Assumes nothing.
use Rattle.std.specs.Prelude.{Err}
use Rattle.std.proofs.Common.{refl, ap, ◌∙◌}
use Rattle.test_exports.proofs.EvaluationsPaths.{sums_told, refusal_told, refusal_at_told}
use Rattle.test_exports.proofs.evaluations.told.Goals as goal

pub returns-in-Ok : goal.returns-in-Ok
returns-in-Ok c = sums_told _ _ c.finish.ensures c.in-Ok.is c.write_sums.ensures

pub returns-in-Err-Refused : goal.returns-in-Err-Refused
returns-in-Err-Refused c = refusal_told _ _ c.finish.ensures (c.in-Err-Refused.is ∙ ap Err c.in-Err-Refused.field-0-is) c.put.ensures

pub returns-in-Err-RefusedAt : goal.returns-in-Err-RefusedAt
returns-in-Err-RefusedAt c = refusal_at_told _ _ c.finish.ensures (c.in-Err-RefusedAt.is ∙ ap Err c.in-Err-RefusedAt.field-0-is) refl c.put-in-Err-RefusedAt.ensures
