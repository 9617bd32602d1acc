-- `is_no_variance` meets its contract. Assumes nothing.
use Rattle.setup.specs.Admission.{is_no_variance}
use Rattle.setup.proofs.is_no_variance.Goals as goal

pub returns : goal.returns
unfolding is_no_variance
returns c = c.is_beyond.ensures
