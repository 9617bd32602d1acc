-- What a host is told of a session besides its answers: whether there is a shrinkage, and the most evaluations that are to be booked.
use Rattle.std.specs.Prelude.{Bool, true, false, ℕ, ◌-◌, eqb}
use Rattle.float64.specs.Pick.{pick}
use Rattle.mode.specs.declared.population_focei.Stage.{Stage}
use Rattle.mode.specs.declared.population_focei.Stage.TheVariants.{Grid, Warm, Secant, Halving}
use Rattle.mode_theorems.specs.Claim as one
use Rattle.mode_theorems.specs.Claim2 as two
use Rattle.search.specs.Subjects.{one_of}
use Rattle.search.specs.declared.Progress.{Progress}

-- the stages in which a search with one effect may ask to end in its mode
unfoldable pub has_mode : Stage → Bool
has_mode Grid = false
has_mode Warm = false
has_mode Secant = true
has_mode Halving = true

-- no reply is awaited, the subject is the last one, and its search may have its mode; one with two effects counts as one that has asked
-- for nothing
unfoldable pub has_finished : Progress → ℕ → Bool
has_finished progress subjects =
    pick progress.awaits false
    (pick (eqb subjects 0) false (pick (eqb progress.subject (subjects - 1)) (has_mode (one_of progress.search).stage) false))

-- the most evaluations that a subject's search asks for, by the number of effects; where there is no such session none
unfoldable pub ceiling_of : ℕ → ℕ
ceiling_of effects = pick (eqb effects 1) one.ceiling (pick (eqb effects 2) two.ceiling 0)
