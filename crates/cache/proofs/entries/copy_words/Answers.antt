-- `copy_words` meets its contract: in one run, or in two. Assumes nothing.
use Rattle.std.proofs.Common.{refl}
use Rattle.cache.proofs.EntriesPaths.{in_one_run, in_two_runs}
use Rattle.cache.proofs.entries.copy_words.Goals as goal

pub returns-then-n-left : goal.returns-then-n-left
returns-then-n-left c =
    let m = c.modulo-at.ensures in
    in_one_run _ _ _ _ _ _ c.requires.0 c.entry_place.ensures.0 c.read-first.ensures refl
    (rw m at c.if-n-left.true) (rw m at c.copy_run.ensures)

pub returns : goal.returns
returns c =
    let m = c.modulo-at.ensures in
    in_two_runs _ _ _ _ _ _ c.requires.0 c.entry_place.ensures.0 c.read-first.ensures refl c.requires.2
    (rw m at c.if-n-left.false) (rw m at c.copy_run-2.ensures)
    (rw m at c.copy_run-3.ensures)
