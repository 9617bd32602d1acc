-- What document 01 says of refusals and of the end of an objective, for all that a host may lend: any setup, counts and observations, any
-- tally, and any words for the state, the answer, the kept evaluations, the work, the warm starts and the results. No session is asked for.
use Rattle.std.specs.Prelude.{◌≡◌, true, List, ◌⊎◌, ℕ, suc, ◌+◌, ◌-◌, ◌≤◌, ◌<◌, length, get_or}
use Rattle.float64.specs.Answer.{refused}
use Rattle.likelihood.specs.declared.population_focei.Observation.{Observation}
use Rattle.words.specs.Words.{zeros}
use Rattle.setup.specs.declared.Parameters.{Parameters}
use Rattle.setup.specs.declared.Setup.{Setup}
use Rattle.search.specs.declared.Place.{Place}
use Rattle.search.specs.declared.Place.TheVariants as At
use Rattle.search.specs.declared.Step.{Step}
use Rattle.search.specs.declared.Tally.{Tally}
use Rattle.machine.specs.Machine.{on, loop}
use Rattle.population.specs.Kept.{words}
use Rattle.population.specs.Population.{spent}
use Rattle.session.specs.Session.{Held, Call, objective, reply, failure, fuel, is_placed, turn_held, enter}
use Rattle.state_words.specs.SessionWords.{state_size, loaded_state}
use Rattle.host_calls.specs.Hosting.{Out, out, answered, place_words, setup_over, call_over}
use Rattle.host_calls.specs.SubjectReplies.{subject_reply_over}

-- ---- the calls, and all that is lent to one

-- setup; a new objective, a reply or a failure; a reply that lends one subject's observations
pub data Exported : Type 0 where
  opens : Exported
  calls : Call → Exported
  replies : List ℕ → Exported

pub record Lending : Type 0 where
  pub setup : Setup
  pub counts : List ℕ
  pub observations : List Observation
  pub tally : Tally
  pub state : List ℕ
  pub answer : List ℕ
  pub cache : List ℕ
  pub work : List ℕ
  pub warm : List ℕ
  pub results : List ℕ

-- all that a call gives back and writes: what the exported functions promise
abbrev pub does : Lending → Exported → Out
does l opens =
    setup_over l.setup l.counts l.observations l.tally l.state l.answer l.cache l.work l.warm l.results
does l (calls c) =
    call_over l.setup l.counts l.observations l.tally l.state l.answer l.cache l.work l.warm l.results c
does l (replies said) =
    subject_reply_over l.setup l.counts l.observations l.tally l.state l.answer l.cache l.work l.warm l.results
    said

-- ---- document 01's numbers

-- 1 to 5 and 19
abbrev pub AltersNothing : ℕ → Type 0
AltersNothing n = ((1 ≤ n) × (n ≤ 5)) ⊎ (n ≡ 19)

-- the others that a call may give
abbrev pub EndsObjective : ℕ → Type 0
EndsObjective n = (6 ≤ n) × (n ≤ 18)

-- what each carries: 1 to 3, 5, 18 and 19 no place; 4, 10, 11 and a row's 12 subject and observation; the others the subject
abbrev pub Carries : ℕ → Place → Type 0
Carries n At.Nowhere = ((1 ≤ n) × (n ≤ 3)) ⊎ ((n ≡ 5) ⊎ ((n ≡ 18) ⊎ (n ≡ 19)))
Carries n (At.Observation i j) = (n ≡ 4) ⊎ ((10 ≤ n) × (n ≤ 12))
Carries n (At.Subject i) = ((6 ≤ n) × (n ≤ 9)) ⊎ ((12 ≤ n) × (n ≤ 17))

-- a state's first word is 1 where a reply is awaited
abbrev pub Awaits : List ℕ → Type 0
Awaits state = get_or state 0 0 ≡ 1

-- the rows that are kept by a state's positions: its words 16 and 17 are the numbers of the first row and of the next one
abbrev pub kept_by : List ℕ → ℕ
kept_by state = get_or state 17 0 - get_or state 16 0

module _ (l : Lending) where
  abbrev pub number : Exported → ℕ
  number x = (does l x).told.done.number

  -- the tally's evaluations, when the call is made and afterwards
  abbrev pub before : ℕ
  before = l.tally.calls.0

  abbrev pub after : Exported → ℕ
  after x = (does l x).told.done.tally.calls.0

  -- ---- 19: a call out of turn, words that are no state, or one that stands beyond what is lent

  pub record OutOfTurn : Type 0 where
    -- a new objective while a reply is awaited
    pub objectives : Awaits l.state → (parameters : Parameters) → number (calls (objective parameters)) ≡ 19
    -- a reply or a failure while none is
    pub answers : (Awaits l.state → ⊥) → (said : List ℕ) → number (calls (reply said)) ≡ 19
    pub subjects : (Awaits l.state → ⊥) → (said : List ℕ) → number (replies said) ≡ 19
    pub failures : (Awaits l.state → ⊥) → number (calls failure) ≡ 19
    -- any call but setup: words that are no state; a subject that has no count; kept rows above K, by the tally or by the state's positions
    pub stateless : (n : ℕ) → loaded_state l.state ≡ refused n → (x : Exported) → (x ≡ opens → ⊥) → number x ≡ 19
    pub misplaced : length l.counts ≤ get_or l.state 8 0 → (x : Exported) → (x ≡ opens → ⊥) → number x ≡ 19
    pub crowded : l.setup.k < l.tally.cached_rows.0 → (x : Exported) → (x ≡ opens → ⊥) → number x ≡ 19
    pub overfull : l.setup.k < kept_by l.state → (x : Exported) → (x ≡ opens → ⊥) → number x ≡ 19
    -- setup: too few words for the state that it is to give
    pub short : length l.state < state_size → number opens ≡ 19

  -- ---- every refusal: its number, and what it leaves

  pub record EveryRefusal (x : Exported) : Type 0 where
    -- 0 where nothing is refused; else document 01's numbers
    pub numbers : (number x ≡ 0) ⊎ ((AltersNothing (number x)) ⊎ (EndsObjective (number x)))
    -- 1 to 5 and 19 alter nothing lent: tally, state, kept, work, warm and results are as they were, and the answer's five words are 2, the
    -- number and its place
    pub unaltered : AltersNothing (number x) → (place : Place) × Carries (number x) place
        × (does l x ≡ out (record { number = number x; tally = l.tally }) l.state (answered (place_words (number x) place) l.answer)
        l.cache l.work l.warm l.results)
    -- the answer to the others is 2, the number and its place too
    pub others : EndsObjective (number x) → (place : Place) × Carries (number x) place
        × ((does l x).told.answer ≡ answered (place_words (number x) place) l.answer)

  -- ---- 6 only where no evaluation is left

  pub record SixOnlyAtTheLimit (x : Exported) : Type 0 where
    -- the tally's evaluations have reached max_evaluations, and are what they were
    pub reached : number x ≡ 6 → l.setup.max_evaluations ≤ after x
    pub same : number x ≡ 6 → after x ≡ before
    -- whatever the answer, a call raises them by one at most, and no higher than max_evaluations
    pub rises : (after x ≤ before) ⊎ ((after x ≡ suc before) × (after x ≤ l.setup.max_evaluations))

  -- ---- the objective is over, or a point is asked for

  pub record ZerosAfterAnEnd (x : Exported) : Type 0 where
    -- after 6 to 18 the work words are zeros, as many as were lent, and the state that is saved awaits no reply
    pub refusals : EndsObjective (number x) → ((does l x).work ≡ zeros (length l.work)) × (Awaits (does l x).told.state → ⊥)
    -- on success, where the answer's first word is 1, it is the same
    pub finished : 1 ≤ length l.answer → get_or (does l x).told.answer 0 0 ≡ 1
        → ((does l x).work ≡ zeros (length l.work)) × (Awaits (does l x).told.state → ⊥)
    -- after a question, where the answer's first word is 0, the state awaits its reply
    pub asked : 1 ≤ length l.answer → get_or (does l x).told.answer 0 0 ≡ 0 → Awaits (does l x).told.state

  -- ---- kept rows

  -- a call that does more than to refuse leaves at most K of them in the tally, whatever the words of the kept evaluations
  pub record KeptWithin (x : Exported) : Type 0 where
    pub few : (AltersNothing (number x) → ⊥) → (does l x).told.done.tally.cached_rows.0 ≤ l.setup.k

-- ---- the requests that a call may make are never used up: more of them, and whatever answer after the last, would change nothing

pub record NeverSpent (setup : Setup) (counts : List ℕ) : Type 0 where
  -- from every place whose subject is one of 4,096 at most and whose search is within the limits that 19 asks for, whatever its floats
  pub within : length counts ≤ 4096 → (n : ℕ) (h : Held words) → is_placed setup.effects counts n h.whole.progress ≡ true
      → (other : Step) (more : ℕ)
      → loop (turn_held words setup counts) other (fuel + more) h ≡ loop (turn_held words setup counts) spent fuel h
  -- and after every entry that goes on to the requests
  pub entered : (observations : List Observation) (c : Call) (h t : Held words) → enter words setup counts observations c h ≡ on t
      → (other : Step) (more : ℕ)
      → loop (turn_held words setup counts) other (fuel + more) t ≡ loop (turn_held words setup counts) spent fuel t

-- ---- of every call, with whatever is lent

pub record ForAllWords : Type 0 where
  pub turns : (l : Lending) → OutOfTurn l
  pub refusals : (l : Lending) (x : Exported) → EveryRefusal l x
  pub limits : (l : Lending) (x : Exported) → SixOnlyAtTheLimit l x
  pub ends : (l : Lending) (x : Exported) → ZerosAfterAnEnd l x
  pub rows : (l : Lending) (x : Exported) → KeptWithin l x
  pub requests : (setup : Setup) (counts : List ℕ) → NeverSpent setup counts
