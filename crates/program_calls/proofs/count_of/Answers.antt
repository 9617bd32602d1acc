-- `count_of` meets its contract. Assumes nothing.
use Rattle.program_calls.proofs.Paths.{counted}
use Rattle.program_calls.proofs.count_of.Goals as goal

pub returns : goal.returns
returns c = counted _
