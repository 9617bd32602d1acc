-- `add_observation` meets its contract: each exit by its law. Assumes nothing.
use Rattle.std.proofs.Common.{ap, ◌∙◌}
use Rattle.subject.specs.Subject.{evaluating, Evaluation}
use Rattle.subject.proofs.Paths.{passed_on}
use Rattle.subject.proofs.RowsPaths.{after_running, after_refused}
use Rattle.subject.proofs.rows.add_observation.Goals as goal

pub returns-in_err-sums : goal.returns-in_err-sums
returns-in_err-sums c =
    ap (λ (e : Evaluation). evaluating e c.args.work.now) (passed_on _ c.from_residual.ensures.1) ∙ after_refused _ _ _ _ c.in_err-sums.was

pub returns : goal.returns
returns c = after_running _ _ _ _ c.in_ok-sums.was c.add_to.ensures
