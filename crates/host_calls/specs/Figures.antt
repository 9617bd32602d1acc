-- The shrinkage that a host is told, from its words: of the objective with one effect that the latest call has finished, or 19 where there
-- is none.
use Rattle.std.specs.Prelude.{List, ℕ, ltb, eqb, length, get_or, Float, None, Option, Some}
use Rattle.float64.specs.Answer.{Answer, given, refused}
use Rattle.float64.specs.Pick.{pick}
use Rattle.work.specs.Work.{most_subjects}
use Rattle.session.specs.Calls.{shrinkage}
use Rattle.session.specs.Figures.{has_finished}
use Rattle.session.specs.declared.State.{State}
use Rattle.state_words.specs.SessionWords.{loaded_state}

-- for each case of the code's answer, what it says
unfoldable pub told : Option Float → Answer Float
told (Some x) = given x
told None = refused 19

-- of a state, where there are so many subjects
unfoldable pub shrinkage_in : ℕ → State → Answer Float
shrinkage_in subjects s =
    pick (ltb most_subjects subjects) (refused 19)
    (pick (has_finished s.progress subjects) (given (shrinkage s subjects)) (refused 19))

-- of words that may be no state
unfoldable pub shrinkage_of : ℕ → Answer State → Answer Float
shrinkage_of subjects (given s) = shrinkage_in subjects s
shrinkage_of subjects (refused number) = refused 19

-- the answer's first word is 1 where it is of an end
unfoldable pub shrinkage_from : List ℕ → List ℕ → List ℕ → Answer Float
shrinkage_from counts state answer = pick (eqb (get_or answer 0 0) 1) (shrinkage_of (length counts) (loaded_state state)) (refused 19)
