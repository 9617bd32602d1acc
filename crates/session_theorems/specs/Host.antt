-- Demand 3 of what a host sees: from any lent memory, after a setup that answers 0, over every list of the exported calls.
use Rattle.std.specs.Prelude.{◌≡◌, List, [], ◌∷◌, ℕ, eqb, length, get_or, take, drop}
use Rattle.float64.specs.Answer.{given}
use Rattle.float64.specs.Pick.{pick}
use Rattle.likelihood.specs.declared.population_focei.Observation.{Observation}
use Rattle.setup.specs.declared.Lent.{Lent}
use Rattle.setup.specs.declared.Setup.{Setup}
use Rattle.search.specs.declared.Step.{Step}
use Rattle.search.specs.declared.Tally.{Tally}
use Rattle.machine.specs.Claim.{Demand3}
use Rattle.machine.specs.Machine.{Machine, Act, calls as acts, sets, call, run}
use Rattle.machine.specs.Observed.{View}
use Rattle.population.specs.Kept.{words}
use Rattle.session.specs.Calls.{held_of, lent_by}
use Rattle.session.specs.Session.{Held, Call, objective, reply, failure, session, opened}
use Rattle.session.specs.declared.State.{State}
use Rattle.state_words.specs.SessionWords.{loaded_state}
use Rattle.host_calls.specs.Hosting.{SetupBits, setup_from, ParameterBits, parameters_from, Out, answered, answer_of, number_of}
use Rattle.session_theorems.specs.Inner.{Inner, inner1, inner2, view}
use Rattle.session_theorems.specs.Refusals.{opens, calls, replies, Lending, does, number}
use Rattle.session_theorems.specs.Evaluations.{Evaluates}
use Rattle.session_theorems.specs.Unwritten.{Unwritten}
use Rattle.session_theorems.specs.Runs.{Original, original1, original2, Runs}
use Rattle.session_theorems.specs.Shown.{Objective, before, Reads, reads1, reads2, showing, Shown}

-- ---- what a host has and does

-- what changes from call to call
pub record Lends : Type 0 where
  pub tally : Tally
  pub state : List ℕ
  pub answer : List ℕ
  pub cache : List ℕ
  pub work : List ℕ
  pub warm : List ℕ
  pub results : List ℕ

unfoldable pub left : Out → Lends
left o = record {
  tally = o.told.done.tally;
  state = o.told.state;
  answer = o.told.answer;
  cache = o.cache;
  work = o.work;
  warm = o.warm;
  results = o.results;
}

-- all that is lent to a call
abbrev pub lending : Setup → List ℕ → List Observation → Lends → Lending
lending setup counts observations m = record {
  setup = setup;
  counts = counts;
  observations = observations;
  tally = m.tally;
  state = m.state;
  answer = m.answer;
  cache = m.cache;
  work = m.work;
  warm = m.warm;
  results = m.results;
}

-- after setup: with the same setup and counts, and all the observations or those of the awaited subject alone, whose number is word 8 of
-- the state
abbrev pub all : Lending → Lends → Lending
all l m = lending l.setup l.counts l.observations m

abbrev pub own : Lending → Lends → Lending
own l m =
    let i = get_or m.state 8 0 in
    lending l.setup l.counts (take (get_or l.counts i 0) (drop (before l.counts i) l.observations)) m

abbrev pub rewarmed : Lends → List ℕ → Lends
rewarmed m warm =
    record { tally = m.tally; state = m.state; answer = m.answer; cache = m.cache; work = m.work; warm = warm; results = m.results }

-- the exported calls after setup; and the warm starts are set between objectives, in as many words
pub data Deed : Type 0 where
  asks : ParameterBits → Deed
  answers : List ℕ → Deed
  answers_own : List ℕ → Deed
  fails : Deed
  warms : List ℕ → Deed

module _ (l : Lending) where
  -- word 0 of the state is 1 while a reply is awaited
  unfoldable pub after : Lends → Deed → Lends
  after m (asks p) = left (does (all l m) (calls (objective (parameters_from p))))
  after m (answers said) = left (does (all l m) (calls (reply said)))
  after m (answers_own said) = left (does (own l m) (replies said))
  after m fails = left (does (all l m) (calls failure))
  after m (warms warm) = pick (eqb (get_or m.state 0 0) 1) m (pick (eqb (length warm) (length m.warm)) (rewarmed m warm) m)

  unfoldable pub hosted : Lends → List Deed → Lends
  hosted m [] = m
  hosted m (d ∷ ds) = hosted (after m d) ds

  -- ---- what the session does

  abbrev pub M : Machine
  M = session words l.setup l.counts l.observations

  unfoldable pub act_of : Deed → Act M
  act_of (asks p) = acts (objective (parameters_from p))
  act_of (answers said) = acts (reply said)
  act_of (answers_own said) = acts (reply said)
  act_of fails = acts failure
  act_of (warms warm) = sets warm

  unfoldable pub acts_of : List Deed → List (Act M)
  acts_of [] = []
  acts_of (d ∷ ds) = act_of d ∷ acts_of ds

  -- where the session begins, and where its calls have come to
  abbrev pub lent : Lent
  lent = lent_by (length l.observations) (length l.cache) (length l.work) (length l.warm) (length l.results)

  abbrev pub first : Held words
  first = opened words l.setup l.counts lent l.results

  abbrev pub reached : List Deed → Held words
  reached ds = run M first (acts_of ds)

-- the host's words are the machine's state
pub record Is (m : Lends) (h : Held words) : Type 0 where
  pub state : State
  pub loads : loaded_state m.state ≡ given state
  pub held : held_of state m.tally m.cache m.work m.warm m.results ≡ h

-- a call's number and its answer's words are the machine's answer
abbrev pub Told : Out → Lends → Step → Type 0
Told o m a = (o.told.done.number ≡ number_of a) × (o.told.answer ≡ answered (answer_of a) m.answer)

-- ---- the claim

module _ (I : Inner) (L : Reads I) (O : Original I.rules) (l : Lending) (ds : List Deed) where
  abbrev pub viewed : View I.rules (M l)
  viewed = view words l.setup l.counts l.observations I

  -- what the host has, after setup and these deeds
  abbrev pub now : Lends
  now = hosted l (left (does l opens)) ds

  pub record Hosted : Type 0 where
    -- the words that the host has are the state that the calls have come to
    pub is : Is now (reached l ds)
    -- of which demand 3 is said
    pub demand3 : Demand3 I.rules I.claims (M l) viewed (first l) (acts_of l ds)
    -- each of its searches is a run of the source's
    pub runs : Runs I.rules O (M l) viewed (first l) (acts_of l ds)
    -- and what these words show of the log
    pub shows : (o : Objective I.rules (M l) viewed)
        → Shown I.rules (M l) viewed (showing l.setup l.counts l.observations I L) o (first l) (acts_of l ds)
    -- what is asked for and what is kept
    pub evaluates : Evaluates l.setup l.counts l.observations (reached l ds)
    -- one call more leaves the words alone of the subjects whose mode it does not reach
    pub unwritten : (c : Call) → let r = call (M l) c (reached l ds) in
        Unwritten l.setup l.counts (reached l ds) r.answer r.state
    -- its answer is the machine's; and so is that of a reply that lends one subject's observations
    pub tells : (c : Call) → Told (does (all l now) (calls c)) now (call (M l) c (reached l ds)).answer
    pub tells_own : (said : List ℕ) → Told (does (own l now) (replies said)) now (call (M l) (reply said) (reached l ds)).answer

-- whatever bits the setup has, whatever memory is lent, whatever the calls
abbrev pub EveryHost : Type 0
EveryHost = (setup : SetupBits) (counts : List ℕ) (observations : List Observation) (memory : Lends)
    → let l = lending (setup_from setup) counts observations memory in
    number l opens ≡ 0 → (ds : List Deed)
    → (l.setup.effects ≡ 1 → Hosted inner1 reads1 original1 l ds) × (l.setup.effects ≡ 2 → Hosted inner2 reads2 original2 l ds)
