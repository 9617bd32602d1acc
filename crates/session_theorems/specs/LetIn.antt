-- What a session accepts, wherever it stands: a reply or a failure that is awaited, and a new objective while none is. None of these
-- calls gets 19, and 1 to 5 refuse nothing but a new objective, for its own parameters.
use Rattle.std.specs.Prelude.{◌≡◌, true, false, List, ℕ, length, Ok}
use Rattle.matrix.specs.declared.Pair.{Pair}
use Rattle.likelihood.specs.declared.population_focei.Observation.{Observation}
use Rattle.setup.specs.Admission.{is_no_omega, is_no_shape, with_parameters, Admission}
use Rattle.setup.specs.declared.Setup.{Setup}
use Rattle.setup.specs.declared.Parameters.{Parameters}
use Rattle.setup.specs.declared.Lent.{Lent}
use Rattle.search.specs.Subjects.{fit_of, wanted_by, refusal}
use Rattle.search.specs.declared.Place.{Place}
use Rattle.search.specs.declared.Place.TheVariants.{Subject}
use Rattle.search.specs.declared.Step.TheVariants.{Refused}
use Rattle.machine.specs.Machine.{on, call, Act, run}
use Rattle.population.specs.Kept.{words}
use Rattle.session.specs.Session.{Held, Call, objective, reply, failure, standing, when_admitted, begun, over, admitted, all_checked}
use Rattle.session.specs.Session.{enter_objective, enter_reply, enter_failure, answered, session, opened}
use Rattle.session_theorems.specs.Inner.{point_wanted}
use Rattle.session_theorems.specs.Setup.{Granted}

module _ (setup : Setup) (counts : List ℕ) (observations : List Observation) where
  -- what 1 to 5 say of an objective with these parameters
  abbrev pub admission : Parameters → Held words → Admission
  admission parameters h = admitted words setup counts (length observations) (all_checked setup counts observations) parameters h.whole

  -- the point that the search asks for
  abbrev pub wanted_point : Held words → Pair
  wanted_point h = point_wanted (wanted_by (fit_of setup h.parameters) h.whole.progress)

  -- the calls that keep to the rules
  abbrev pub Ruled : Call → Held words → Type 0
  Ruled (objective parameters) h = h.whole.progress.awaits ≡ false
  Ruled (reply said) h = h.whole.progress.awaits ≡ true
  Ruled failure h = h.whole.progress.awaits ≡ true

  pub record LetIn (h : Held words) : Type 0 where
    -- 19's positions and kept rows
    pub placed : standing words setup counts (length observations) h.whole ≡ true
    -- 1 to 5 of the objective's own parameters; of others only 2 and 3 can refuse
    pub accepted : admission h.parameters h ≡ Ok tt
    pub others : (parameters : Parameters) → is_no_omega (with_parameters setup parameters) ≡ false
        → is_no_shape (with_parameters setup parameters) ≡ false → admission parameters h ≡ Ok tt
    -- a reply is awaited: it is evaluated at the point that was asked for, and its failure ends the objective with 8
    pub replies : h.whole.progress.awaits ≡ true → (said : List ℕ)
        → enter_reply words setup counts observations said h ≡ answered words setup counts observations said (wanted_point h) h
    pub fails : h.whole.progress.awaits ≡ true
        → enter_failure words setup counts (length observations) (all_checked setup counts observations) h
        ≡ over words 8 (Subject h.whole.progress.subject) h
    -- none is awaited: a new objective begins where 1 to 5 pass
    pub begins : h.whole.progress.awaits ≡ false → (parameters : Parameters)
        → enter_objective words setup counts (length observations) (all_checked setup counts observations) parameters h
        ≡ when_admitted words h (on (begun words setup counts parameters h.whole)) (admission parameters h)
    -- and no answer to any of these is 19
    pub never19 : (c : Call) → Ruled c h → (place : Place)
        → (call (session words setup counts observations) c h).answer ≡ Refused (refusal 19 place) → ⊥

-- after any list of calls, in the session that an accepted setup opened
abbrev pub EveryCall : Type 0
EveryCall = (setup : Setup) (counts : List ℕ) (observations : List Observation) (lent : Lent) (results : List ℕ)
    → Granted setup counts observations lent results → let M = session words setup counts observations in
    (acts : List (Act M)) → LetIn setup counts observations (run M (opened words setup counts lent results) acts)
