-- `next_place` meets its contract: each exit by its law. Assumes nothing.
use Rattle.subject.proofs.ChecksPaths.{same_subject, next_subject_lem}
use Rattle.subject.proofs.checks.next_place.Goals as goal

pub returns-then-next-count : goal.returns-then-next-count
returns-then-next-count c = same_subject _ _ c.wrapping_add_usize-next.ensures.value c.if-next-count.true

pub returns : goal.returns
returns c = next_subject_lem _ _ c.wrapping_add_usize-next.ensures.value c.if-next-count.false c.wrapping_add_usize.ensures.value
