-- The two-effect search for the comparison: what is answered and what is written, over twenty-five words.
use Rattle.std.specs.Prelude.{ℕ, List, Float}
use Rattle.float64.specs.Answer.{Answer, given, refused, through}
use Rattle.matrix.specs.Matrix.{matrix_of}
use Rattle.mode_2d.specs.Rules.{vector, pair_of, request, advance}
use Rattle.mode_2d.specs.declared.population_focei_2d.Settings2.{Settings2}
use Rattle.mode_2d.specs.declared.population_focei_2d.Conditional2.{Conditional2}
use Rattle.mode_2d.specs.declared.population_focei_2d.Search2.{Search2}
use Rattle.state_words.specs.SearchWords2.{loaded, saved}
use Rattle.mode.specs.declared.Request.{Request}
use Rattle.matrix.specs.declared.Pair.{Pair}
use Rattle.mode.specs.declared.Request.TheVariants.{Point, Mode, Refused}

-- ---- arrays as the rules' records
unfoldable pub settings_of : Float → List (List Float) → List Float → Settings2
settings_of eta_bound precision warm =
    record {
      eta_bound = eta_bound;
      precision = matrix_of precision;
      warm = pair_of warm;
    }

unfoldable pub point_of : List Float → Float → List Float → List (List Float) → Conditional2
point_of eta nll score information =
    record {
      eta = pair_of eta;
      nll = nll;
      score = pair_of score;
      information = matrix_of information;
    }

-- what is asked
unfoldable pub requested : Settings2 → List ℕ → Answer (Request Pair)
requested s words = through (request s) (loaded words)

-- the words of the search with one more evaluated point
abbrev pub next : Settings2 → Conditional2 → Search2 → List ℕ
next s c x = saved (advance s x c)

unfoldable pub advanced : Settings2 → List ℕ → Conditional2 → Answer (List ℕ)
advanced s words c = through (next s c) (loaded words)

-- ---- what is answered and written
unfoldable pub request_number : Answer (Request Pair) → ℕ
request_number (given (Point p)) = 0
request_number (given Mode) = 1
request_number (given (Refused number)) = number
request_number (refused number) = number

unfoldable pub point_or : List Float → Answer (Request Pair) → List Float
point_or old (given (Point p)) = vector p
point_or old (given Mode) = old
point_or old (given (Refused number)) = old
point_or old (refused number) = old
