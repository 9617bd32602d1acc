-- `check_at` meets its contract: each exit by its law. Assumes nothing.
use Rattle.subject.proofs.ChecksPaths.{sound_at, unsound_at}
use Rattle.subject.proofs.checks.check_at.Goals as goal

pub returns-then-is_sound : goal.returns-then-is_sound
returns-then-is_sound c = sound_at _ _ _ _ c.is_sound.ensures c.if-is_sound.true c.read-count.ensures c.next_place.ensures

pub returns : goal.returns
returns c = unsound_at _ _ _ _ c.is_sound.ensures c.if-is_sound.false
