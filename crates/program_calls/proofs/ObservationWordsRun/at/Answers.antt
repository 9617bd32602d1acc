-- `at` meets its contract: where there is an observation, it is read.
use Rattle.program_calls.proofs.Paths.{stands_at}
use Rattle.program_calls.proofs.ObservationWordsRun.at.Goals as goal

pub returns : goal.returns
returns c h = stands_at _ _ c.observation_at.ensures h
