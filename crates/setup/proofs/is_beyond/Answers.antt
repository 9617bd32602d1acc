-- `is_beyond` meets its contract: each exit by its law. Assumes nothing.
use Rattle.std.proofs.Common.{not, ap, ◌∙◌}
use Rattle.setup.proofs.Paths.{too_low, high_enough}
use Rattle.setup.proofs.is_beyond.Goals as goal
use Rattle.setup.proofs.is_beyond.Goals.{then-low-x, else-low-x}

pub returns : goal.returns
returns c =
    elim c.if-low-x.branch [
      | then-low-x w ↦ ap not w.result-is ∙ high_enough _ _ _ w.if-low-x.true
      | else-low-x w ↦ ap not w.result-is ∙ too_low _ _ _ w.if-low-x.false
    ]
