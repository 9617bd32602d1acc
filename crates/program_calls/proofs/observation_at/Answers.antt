-- `observation_at` meets its contract: each exit by its law. Assumes nothing.
use Rattle.std.proofs.Common.{refl}
use Rattle.program_calls.proofs.Paths.{beyond_words, read_words}
use Rattle.program_calls.proofs.observation_at.Goals as goal

pub returns-then-words-i : goal.returns-then-words-i
returns-then-words-i c = beyond_words _ _ c.if-words-i.true

pub returns : goal.returns
returns c =
    read_words _ _ c.read.ensures refl c.read-2.ensures refl c.float_at.ensures c.float_at-2.ensures
    c.float_at-3.ensures
