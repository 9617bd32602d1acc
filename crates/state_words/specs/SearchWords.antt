-- A search as twenty words: the words of a search, and the search of some words, or 19 where they are none.
use Rattle.std.specs.Prelude.{Bool, List, [], ◌∷◌, ◌++◌, ℕ, ◌+◌, ltb, eqb, get_or, length, Float, None, Option, Some}
use Rattle.std.specs.Float.{binary64}
use Rattle.std.specs.Float.Ieee.{to_bits}
use Rattle.float64.specs.Arithmetic.{word}
use Rattle.float64.specs.Pick.{pick}
use Rattle.float64.specs.Answer.{Answer, given, refused}
use Rattle.mode.specs.declared.population_focei.Conditional.{Conditional}
use Rattle.mode.specs.declared.population_focei.Stage.{Stage}
use Rattle.mode.specs.declared.population_focei.Stage.TheVariants.{Grid, Warm, Secant, Halving}
use Rattle.mode.specs.declared.population_focei.Search.{Search}

abbrev pub point_of : Float → Float → Float → Float → Conditional
point_of eta nll score information = record { eta = eta; nll = nll; score = score; information = information }

-- ---- a search's words
unfoldable pub words_of : Conditional → List ℕ
words_of c = to_bits binary64 c.eta ∷ to_bits binary64 c.nll ∷ to_bits binary64 c.score ∷ to_bits binary64 c.information ∷ []

unfoldable pub stage_word : Stage → ℕ
stage_word Grid = 0
stage_word Warm = 1
stage_word Secant = 2
stage_word Halving = 3

unfoldable pub fall_word : Bool → ℕ
fall_word fall = pick fall 1 0

unfoldable pub saved : Search → List ℕ
saved x =
    stage_word x.stage ∷ x.count ∷ to_bits binary64 x.first ∷ words_of x.latest
    ++ fall_word x.fall ∷ words_of x.left ++ words_of x.right ++ words_of x.best

-- ---- the search of twenty words
abbrev pub search_size : ℕ
search_size = 20

unfoldable pub stage_of : ℕ → Stage
stage_of n = pick (eqb n 0) Grid (pick (eqb n 1) Warm (pick (eqb n 2) Secant Halving))

abbrev pub at : List ℕ → ℕ → ℕ
at words i = get_or words i 0

-- the point of the four words from i on
unfoldable pub conditional_at : List ℕ → ℕ → Conditional
conditional_at words i = point_of (word (at words i)) (word (at words (i + 1))) (word (at words (i + 2))) (word (at words (i + 3)))

unfoldable pub search_of : List ℕ → Search
search_of words =
    record {
      stage = stage_of (at words 0);
      count = at words 1;
      first = word (at words 2);
      latest = conditional_at words 3;
      fall = eqb (at words 7) 1;
      left = conditional_at words 8;
      right = conditional_at words 12;
      best = conditional_at words 16;
    }

unfoldable pub loaded_lent : List ℕ → Answer Search
loaded_lent words =
    pick (ltb 3 (at words 0)) (refused 19)
    (pick (ltb 4294967295 (at words 1)) (refused 19)
    (pick (ltb 1 (at words 7)) (refused 19)
    (given (search_of words))))

-- where there are so many words, else it is no search
unfoldable pub loaded : List ℕ → Answer Search
loaded words = pick (ltb (length words) search_size) (refused 19) (loaded_lent words)

-- what the code's answer says
unfoldable pub answer : Option Search → Answer Search
answer (Some x) = given x
answer None = refused 19
