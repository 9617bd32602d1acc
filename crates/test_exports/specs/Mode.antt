-- The one-effect search for the comparison: what is answered and what is written, over twenty words.
use Rattle.std.specs.Prelude.{ℕ, List, Float}
use Rattle.float64.specs.Answer.{Answer, given, refused, through}
use Rattle.mode.specs.Rules.{request, advance}
use Rattle.mode.specs.declared.population_focei.Settings.{Settings}
use Rattle.mode.specs.declared.population_focei.Conditional.{Conditional}
use Rattle.mode.specs.declared.population_focei.Search.{Search}
use Rattle.state_words.specs.SearchWords.{loaded, saved}
use Rattle.mode.specs.declared.Request.{Request}
use Rattle.mode.specs.declared.Request.TheVariants.{Point, Mode, Refused}

abbrev pub settings_of : Float → Float → Float → Float → Settings
settings_of eta_bound omega tolerance warm = record { eta_bound = eta_bound; omega = omega; tolerance = tolerance; warm = warm }

-- what is asked
unfoldable pub requested : Settings → List ℕ → Answer (Request Float)
requested s words = through (request s) (loaded words)

-- the words of the search with one more evaluated point
abbrev pub next : Settings → Conditional → Search → List ℕ
next s c x = saved (advance s x c)

unfoldable pub advanced : Settings → List ℕ → Conditional → Answer (List ℕ)
advanced s words c = through (next s c) (loaded words)

-- ---- what is answered and written
unfoldable pub request_number : Answer (Request Float) → ℕ
request_number (given (Point p)) = 0
request_number (given Mode) = 1
request_number (given (Refused number)) = number
request_number (refused number) = number

unfoldable pub point_or : Float → Answer (Request Float) → Float
point_or old (given (Point p)) = p
point_or old (given Mode) = old
point_or old (given (Refused number)) = old
point_or old (refused number) = old
