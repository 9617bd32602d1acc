-- `through_kept_by` meets its contract: each turn and the exit by its law. Assumes nothing.
use Rattle.std.proofs.Common.{◌≡◌, length}
use Rattle.search.specs.Subjects.{with_search}
use Rattle.population.specs.Kept.{cache_of}
use Rattle.population.specs.Through.{through_from}
use Rattle.population.proofs.kept_points.through_kept_by.Given as goal

abbrev pub invariant-kept : goal.invariant-kept
invariant-kept g l = let among = g.S.Searching.among in (through_from l.fit l.rows (cache_of l.cache l.order) l.left l.given (with_search l.start (among l.search)) l.work ≡ through_from l.fit l.rows (cache_of l.cache l.order) l.initial.left l.initial.given
    (with_search l.start (among l.initial.search)) l.initial.work)
    × (length l.work ≡ length l.initial.work)

abbrev pub decreases-kept : goal.decreases-kept
decreases-kept g l = l.left
