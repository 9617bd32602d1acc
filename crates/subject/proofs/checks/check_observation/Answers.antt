-- `check_observation` meets its contract: each exit by its law. Assumes nothing.
use Rattle.std.proofs.Common.{◌∙◌}
use Rattle.subject.proofs.Paths.{passed_on}
use Rattle.subject.proofs.ChecksPaths.{after_sound, after_unsound}
use Rattle.subject.proofs.checks.check_observation.Goals as goal

pub returns : goal.returns
returns c = after_sound _ _ _ c.in_ok-place.was c.check_at.ensures

pub returns-in_err-place : goal.returns-in_err-place
returns-in_err-place c = passed_on _ c.from_residual.ensures.1 ∙ after_unsound _ _ _ c.in_err-place.was
