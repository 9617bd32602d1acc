-- `requests` meets its contract: each turn and each exit by its law. Assumes nothing.
use Rattle.std.proofs.Common.{◌≡◌, length}
use Rattle.machine.specs.Machine.{loop}
use Rattle.population.specs.Kept.{cache_of, words}
use Rattle.population.specs.Population.{turn, spent}
use Rattle.population.specs.Steps.{whole_from}
use Rattle.population.proofs.steps.requests.Given as goal

abbrev pub invariant-requests : goal.invariant-requests
invariant-requests l = (loop (turn words l.fit l.counts) spent l.left (whole_from l.fit l.counts l.given l.here l.tally (cache_of l.cache l.order) l.work l.warm l.results) ≡ loop (turn words l.fit l.counts) spent l.initial.left
    (whole_from l.fit l.counts l.initial.given l.initial.here l.tally (cache_of l.cache l.order) l.initial.work l.initial.warm l.initial.results))
    × (length l.work ≡ length l.initial.work)
    × (length l.warm ≡ length l.initial.warm)
    × (length l.results ≡ length l.initial.results)

abbrev pub decreases-requests : goal.decreases-requests
decreases-requests l = l.left
