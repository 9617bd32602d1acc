-- `setup_of` meets its contract: field by field. Assumes nothing.
use Rattle.std.proofs.Common.{rules}
use Rattle.host_calls.proofs.Paths.{setup_made, setup_handed}
use Rattle.host_calls.proofs.setup_of.Goals as goal

pub returns : goal.returns
returns c = (
  setup_made _ c.additive_sd.ensures,
  setup_handed _ (record {
    o00 = search rules;
    o01 = search rules;
    o10 = search rules;
    o11 = search rules;
    bound = search rules;
    tolerance = search rules;
    additive = search rules;
    most = search rules;
  }),
)
