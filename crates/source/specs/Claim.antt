-- What is claimed of one effect: the source's `mode`, given the answers of a history, says what the rules say after it: the same next
-- point, the same mode, the same number. A mode has the rows that the port's blocks have. A NaN score on the grid is left out
-- (docs/DIFFERENCES.md).
use Rattle.std.specs.Prelude.{◌≡◌, not, List, [], ◌∷◌, map, ℕ, take, T, eqb, Float}
use Rattle.std.specs.Float.Ieee.{is_nan}
use Rattle.float64.specs.Pick.{pick}
use Rattle.mode.specs.declared.population_focei.Settings.{Settings}
use Rattle.mode.specs.declared.population_focei.Conditional as C
use Rattle.mode.specs.declared.population_focei.Search.{Search}
use Rattle.mode.specs.Rules.{request, advance, start}
use Rattle.mode_theorems.specs.Histories.{led_from}
use Rattle.mode_theorems.specs.History.{after, Follows}
use Rattle.work.specs.declared.Sources.{Sources}
use Rattle.search.specs.Subjects.{sources1}
use Rattle.source.specs.Run.{Said, asks, found, refused, said, play, Asked, AskedAt}
use Rattle.source.specs.Source.{Conditional, mode}
use Rattle.mode.specs.declared.Request.{Request}
use Rattle.mode.specs.declared.Request.TheVariants.{Point, Mode, Refused}

unfoldable pub Numbers : List Conditional → Type 0
Numbers [] = Unit
Numbers (c ∷ h) = T (not (is_nan c.score)) × Numbers h

-- without its rows, as the rules have it
abbrev pub bare : Conditional → C.Conditional
bare c = record { eta = c.eta; nll = c.nll; score = c.score; information = c.information }

-- ---- the rows: the port keeps the population's, the best point's and the latest's, and moves them as `sources1` says (0, 1, 2; 3 is the
-- point that was evaluated)
pub record Blocks : Type 0 where
  pub population : List ℕ
  pub best : List ℕ
  pub latest : List ℕ

unfoldable pub from : ℕ → List ℕ → Blocks → List ℕ
from n rows b = pick (eqb n 0) b.population (pick (eqb n 1) b.best (pick (eqb n 2) b.latest rows))

abbrev pub moved : Sources → List ℕ → Blocks → Blocks
moved o rows b = record { population = from o.population rows b; best = from o.best rows b; latest = from o.latest rows b }

pub record State : Type 0 where
  pub search : Search
  pub blocks : Blocks

abbrev pub step : Settings → State → Conditional → State
step s x c = record { search = advance s x.search (bare c); blocks = moved (sources1 x.search (bare c)) c.rows x.blocks }

abbrev pub begin : State
begin = record { search = start; blocks = record { population = []; best = []; latest = [] } }

abbrev pub led : Settings → List Conditional → State
led s h = led_from (step s) begin h

-- what the rules say
unfoldable pub told_by : {A : Type 0} → Request Float → A → Said Float A
told_by (Point p) m = asks p
told_by Mode m = found m
told_by (Refused n) m = refused n

abbrev pub Told : Type 0
Told = C.Conditional × List ℕ × List ℕ

abbrev pub told_at : Settings → State → Said Float Told
told_at s x = told_by (request s x.search) (x.search.best, x.blocks.best, x.blocks.population)

abbrev pub told : Settings → List Conditional → Said Float Told
told s h = told_at s (led s h)

-- what the source says: the mode with its rows, and the population's
abbrev pub view : Conditional × List ℕ → Told
view m = (bare m.0, m.0.rows, m.1)

pub record OneSource (s : Settings) (h : List Conditional) : Type 0 where
  pub same : Asked (mode s) h → said view (play (mode s) h) ≡ told s h
  pub path : Follows s (map bare h) → AskedAt (λ c. c.eta) (mode s) h
  pub search : (led s h).search ≡ after s (map bare h)

abbrev pub OneEffect : Type 0
OneEffect = (s : Settings) (h : List Conditional) → Numbers (take 17 h) → OneSource s h
