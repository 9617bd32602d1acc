-- What is claimed of two effects: the source's `mode`, given the answers of a history, says what the rules say after it. There is no
-- condition on the answers.
use Rattle.std.specs.Prelude.{◌≡◌, List, get_or}
use Rattle.matrix.specs.declared.Pair.{Pair}
use Rattle.mode_2d.specs.declared.population_focei_2d.Settings2.{Settings2}
use Rattle.mode_2d.specs.declared.population_focei_2d.Conditional2.{Conditional2}
use Rattle.mode_2d.specs.Rules.{request}
use Rattle.mode_theorems.specs.History2.{after, Follows}
use Rattle.source.specs.Run.{Said, asks, found, refused, said, play, Asked, AskedAt}
use Rattle.source.specs.Source2.{mode, nowhere}
use Rattle.mode.specs.declared.Request.{Request}
use Rattle.mode.specs.declared.Request.TheVariants.{Point, Mode, Refused}

unfoldable pub told_by : {A : Type 0} → Request Pair → A → Said Pair A
told_by (Point p) m = asks p
told_by Mode m = found m
told_by (Refused n) m = refused n

-- a mode is the search's best point, and the population's rows are those of the history's first
abbrev pub told : Settings2 → List Conditional2 → Said Pair (Conditional2 × Conditional2)
told s h = told_by (request s (after s h)) ((after s h).best, get_or h 0 nowhere)

pub record TwoSource (s : Settings2) (h : List Conditional2) : Type 0 where
  pub same : Asked (mode s) h → said (λ m. m) (play (mode s) h) ≡ told s h
  pub path : Follows s h → AskedAt (λ c. c.eta) (mode s) h

abbrev pub TwoEffects : Type 0
TwoEffects = (s : Settings2) (h : List Conditional2) → TwoSource s h
