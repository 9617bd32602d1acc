-- A session's state as `state_size` words: the words of a state, and the state of some words, or 19 where they are none.
use Rattle.std.specs.Prelude.{Bool, List, [], ◌∷◌, ◌++◌, ℕ, ◌+◌, ltb, eqb, get_or, set, length, drop, Float, None, Option, Some}
use Rattle.std.specs.Float.{binary64}
use Rattle.std.specs.Float.Ieee.{to_bits}
use Rattle.float64.specs.Arithmetic.{word}
use Rattle.float64.specs.Pick.{pick}
use Rattle.float64.specs.Answer.{Answer, given, refused, through}
use Rattle.state_words.specs.SearchWords as one
use Rattle.state_words.specs.SearchWords2 as two
use Rattle.cache.specs.declared.CacheOrder.{CacheOrder}
use Rattle.setup.specs.declared.Parameters.{Parameters}
use Rattle.search.specs.Subjects.{has_additive, additive_word}
use Rattle.search.specs.declared.Progress.{Progress}
use Rattle.search.specs.declared.SubjectSearch.{SubjectSearch}
use Rattle.search.specs.declared.SubjectSearch.TheVariants.{One, Two}
use Rattle.session.specs.declared.State.{State}

-- how many words a state has
abbrev pub state_size : ℕ
state_size = 44

-- ---- the state of some words
abbrev pub at : List ℕ → ℕ → ℕ
at words i = get_or words i 0

unfoldable pub additive_at : List ℕ → Option Float
additive_at words = pick (eqb (at words 4) 1) (Some (word (at words 5))) None

unfoldable pub parameters_at : List ℕ → Parameters
parameters_at words = record { theta = two.pair_at words 1; omega = word (at words 3); additive_sd = additive_at words }

unfoldable pub progress_at : List ℕ → SubjectSearch → Progress
progress_at words search =
    record {
      awaits = eqb (at words 0) 1;
      individual = two.pair_at words 6;
      subject = at words 8;
      first = at words 9;
      warm = two.pair_at words 10;
      search = search;
      ofv = word (at words 12);
      eta_squares = word (at words 13);
    }

unfoldable pub order_at : List ℕ → CacheOrder
order_at words = record { oldest = at words 14; next = at words 15; first_row = at words 16; next_row = at words 17 }

unfoldable pub state_at : List ℕ → SubjectSearch → State
state_at words search = record { parameters = parameters_at words; progress = progress_at words search; order = order_at words }

-- the search with so many effects that some words stand for
unfoldable pub loaded_search : ℕ → List ℕ → Answer SubjectSearch
loaded_search effects words =
    pick (eqb effects 1) (through One (one.loaded words)) (pick (eqb effects 2) (through Two (two.loaded words)) (refused 19))

unfoldable pub with_search : List ℕ → Answer State
with_search words = through (state_at words) (loaded_search (at words 18) (drop 19 words))

unfoldable pub loaded_state : List ℕ → Answer State
loaded_state words =
    pick (ltb (length words) state_size) (refused 19)
    (pick (ltb 1 (at words 0)) (refused 19)
    (pick (ltb 1 (at words 4)) (refused 19)
    (with_search words)))

-- what the code's answer says
unfoldable pub answer : Option State → Answer State
answer (Some state) = given state
answer None = refused 19

-- ---- a state's words
abbrev pub bits : Float → ℕ
bits x = to_bits binary64 x

unfoldable pub flag : Bool → ℕ
flag holds = pick holds 1 0

-- whether it awaits a reply, and the objective's parameters
unfoldable pub objective_words : Bool → Parameters → List ℕ
objective_words awaits p =
    flag awaits ∷ bits p.theta.first ∷ bits p.theta.second ∷ bits p.omega ∷ has_additive p.additive_sd
    ∷ additive_word p.additive_sd ∷ []

unfoldable pub progress_words : Progress → List ℕ
progress_words p =
    bits p.individual.first ∷ bits p.individual.second ∷ p.subject ∷ p.first
    ∷ bits p.warm.first ∷ bits p.warm.second ∷ bits p.ofv ∷ bits p.eta_squares ∷ []

unfoldable pub order_words : CacheOrder → List ℕ
order_words o = o.oldest ∷ o.next ∷ o.first_row ∷ o.next_row ∷ []

-- how many effects the search has, and its words; with one effect there are five less of them, and then five zeros
unfoldable pub search_words : SubjectSearch → List ℕ
search_words (One x) = 1 ∷ one.saved x ++ (0 ∷ 0 ∷ 0 ∷ 0 ∷ 0 ∷ [])
search_words (Two x) = 2 ∷ two.saved x

-- all of them
unfoldable pub state_words : State → List ℕ
state_words s =
    objective_words s.progress.awaits s.parameters ++ progress_words s.progress ++ order_words s.order
    ++ search_words s.progress.search

-- some words with the values from word i on, and nothing beyond their end
unfoldable pub put_from : ℕ → List ℕ → List ℕ → List ℕ
put_from i [] words = words
put_from i (x ∷ values) words = put_from (i + 1) values (set words i x)

unfoldable pub saved_state : State → List ℕ → List ℕ
saved_state s words = put_from 0 (state_words s) words
