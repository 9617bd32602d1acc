-- A search with two effects as twenty-five words: the words of a search, and the search of some words, or 19 where they are none.
use Rattle.std.specs.Prelude.{Bool, true, false, List, [], ◌∷◌, ◌++◌, ℕ, ◌+◌, ◌-◌, ltb, eqb, get_or, length, Float, None, Option, Some}
use Rattle.std.specs.Float.{binary64}
use Rattle.std.specs.Float.Ieee.{to_bits}
use Rattle.float64.specs.Arithmetic.{word}
use Rattle.float64.specs.Pick.{pick}
use Rattle.float64.specs.Answer.{Answer, given, refused}
use Rattle.matrix.specs.declared.Pair.{Pair}
use Rattle.mode_2d.specs.declared.population_focei_2d.Conditional2.{Conditional2}
use Rattle.mode_2d.specs.declared.population_focei_2d.Stage2.{Stage2}
use Rattle.mode_2d.specs.declared.population_focei_2d.Stage2.TheVariants.{Zero, Start, Trial, Found, Halted}
use Rattle.mode_2d.specs.declared.population_focei_2d.Search2.{Search2}

-- ---- a search's words
abbrev pub bits : Float → ℕ
bits x = to_bits binary64 x

unfoldable pub words_of : Conditional2 → List ℕ
words_of c =
    bits c.eta.first ∷ bits c.eta.second ∷ bits c.nll ∷ bits c.score.first ∷ bits c.score.second
    ∷ bits c.information.m00 ∷ bits c.information.m01 ∷ bits c.information.m10 ∷ bits c.information.m11 ∷ []

unfoldable pub stage_word : Stage2 → ℕ
stage_word Zero = 0
stage_word Start = 1
stage_word Trial = 2
stage_word Found = 3
stage_word (Halted number) = 4 + number

unfoldable pub saved : Search2 → List ℕ
saved x =
    stage_word x.stage ∷ x.seed ∷ x.round ∷ x.reduction ∷ words_of x.current
    ++ bits x.trial.first ∷ bits x.trial.second ∷ bits x.decrease ∷ words_of x.best

-- ---- the search of twenty-five words
abbrev pub search_size : ℕ
search_size = 25

-- 13, 14 and 16 are the refusals of a search: any other word above 3 is no stage's
unfoldable pub is_no_stage : ℕ → Bool
is_no_stage n = pick (ltb n 4) false (pick (eqb n (4 + 13)) false (pick (eqb n (4 + 14)) false (pick (eqb n (4 + 16)) false true)))

unfoldable pub stage_of : ℕ → Stage2
stage_of n = pick (eqb n 0) Zero (pick (eqb n 1) Start (pick (eqb n 2) Trial (pick (eqb n 3) Found (Halted (n - 4)))))

abbrev pub at : List ℕ → ℕ → ℕ
at words i = get_or words i 0

-- the pair of the two words from i on
unfoldable pub pair_at : List ℕ → ℕ → Pair
pair_at words i = record { first = word (at words i); second = word (at words (i + 1)) }

-- the point of the nine words from i on
unfoldable pub conditional_at : List ℕ → ℕ → Conditional2
conditional_at words i =
    record {
      eta = pair_at words i;
      nll = word (at words (i + 2));
      score = pair_at words (i + 3);
      information = record {
        m00 = word (at words (i + 5));
        m01 = word (at words (i + 6));
        m10 = word (at words (i + 7));
        m11 = word (at words (i + 8));
      };
    }

unfoldable pub search_of : List ℕ → Search2
search_of words =
    record {
      stage = stage_of (at words 0);
      seed = at words 1;
      round = at words 2;
      reduction = at words 3;
      current = conditional_at words 4;
      trial = pair_at words 13;
      decrease = word (at words 15);
      best = conditional_at words 16;
    }

-- the largest u32, for the three counts
abbrev pub largest : ℕ
largest = 4294967295

unfoldable pub loaded_lent : List ℕ → Answer Search2
loaded_lent words =
    pick (is_no_stage (at words 0)) (refused 19)
    (pick (ltb largest (at words 1)) (refused 19)
    (pick (ltb largest (at words 2)) (refused 19)
    (pick (ltb largest (at words 3)) (refused 19)
    (given (search_of words)))))

-- where there are so many words, else it is no search
unfoldable pub loaded : List ℕ → Answer Search2
loaded words = pick (ltb (length words) search_size) (refused 19) (loaded_lent words)

-- what the code's answer says
unfoldable pub answer : Option Search2 → Answer Search2
answer (Some x) = given x
answer None = refused 19
