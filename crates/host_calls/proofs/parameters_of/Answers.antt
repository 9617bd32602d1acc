-- `parameters_of` meets its contract: field by field. Assumes nothing.
use Rattle.std.proofs.Common.{rules}
use Rattle.host_calls.proofs.Paths.{parameters_made, parameters_handed}
use Rattle.host_calls.proofs.parameters_of.Goals as goal

pub returns : goal.returns
returns c = (parameters_made _ c.additive_sd.ensures, parameters_handed _ (search rules) (search rules) (search rules) (search rules))
