-- Every search of every session is a run of the source's `mode`, as the source writes it (specs of the crate source): the evaluations
-- that it was given are those that the run asks for, one after the other, and it ends as the run does.
use Rattle.std.specs.Prelude.{◌≡◌, ◌⊎◌, true, List, [], ◌∷◌, map, ℕ}
use Rattle.mode.specs.declared.population_focei.Conditional as C
use Rattle.likelihood.specs.declared.population_focei.Observation.{Observation}
use Rattle.source.specs.Run.{Said, asks, found, refused, said, play, AskedAt}
use Rattle.source.specs.Source as One
use Rattle.source.specs.Source2 as Two
use Rattle.source.specs.Claim.{bare}
use Rattle.setup.specs.declared.Setup.{Setup}
use Rattle.setup.specs.declared.Lent.{Lent}
use Rattle.machine.specs.Log.{Every, OfEvaluation, Searched, history, searches, in_mode, in_refusal}
use Rattle.machine.specs.Machine.{Machine, Act, run}
use Rattle.machine.specs.Observed.{View, log}
use Rattle.machine.specs.Rules.{Rules}
use Rattle.population.specs.Kept.{words}
use Rattle.session.specs.Session.{opened, session}
use Rattle.session_theorems.specs.Inner.{Inner, rules1, rules2, inner1, inner2, view}
use Rattle.session_theorems.specs.Setup.{Granted}

-- ---- the source's search, as a session's rules have settings, points and evaluations

pub record Original (R : Rules) : Type 1 where
  -- each of these evaluations is of the point that its run asks for after those before it; and what the run says after all of them
  pub Asks : R.Settings → List R.Conditional → Type 0
  pub says : R.Settings → List R.Conditional → Said R.Point R.Conditional

-- an evaluation as the source has it; what is asked for and found does not go by its rows
abbrev pub lift : C.Conditional → One.Conditional
lift c = record { eta = c.eta; nll = c.nll; score = c.score; information = c.information; rows = [] }

abbrev pub original1 : Original rules1
original1 = record {
  Asks = λ s h. AskedAt (λ c. c.eta) (One.mode s) (map lift h);
  says = λ s h. said (λ m. bare m.0) (play (One.mode s) (map lift h));
}

abbrev pub original2 : Original rules2
original2 = record {
  Asks = λ s h. AskedAt (λ c. c.eta) (Two.mode s) h;
  says = λ s h. said (λ m. m.0) (play (Two.mode s) h);
}

-- ---- of any machine

module _ (R : Rules) (O : Original R) where
  -- one search: its evaluations are those of the run, and it ends in the run's mode, or with the number that the run stops with, if that is
  -- not one of an evaluation
  pub record IsRun (x : Searched R) : Type 0 where
    pub asked : O.Asks x.settings (history R x)
    pub mode : (m : R.Conditional) → x.end ≡ in_mode m → O.says x.settings (history R x) ≡ found m
    pub refusal : (n : ℕ) → x.end ≡ in_refusal n → OfEvaluation n ⊎ (O.says x.settings (history R x) ≡ refused n)

  -- the newest search waits for an evaluation: its run asks for one
  abbrev pub Waiting : List (Searched R) → Type 0
  Waiting [] = ⊥
  Waiting (x ∷ xs) = (p : R.Point) × (O.says x.settings (history R x) ≡ asks p)

  module _ (M : Machine) (Y : View R M) where
    pub record Runs (s₀ : M.State) (acts : List (Act M)) : Type 0 where
      pub each : Every IsRun (searches R (log R M Y s₀ acts))
      pub waits : M.awaits (run M s₀ acts) ≡ true → Waiting (searches R (log R M Y s₀ acts))

-- ---- of a session, with one effect and with two

module _ (setup : Setup) (counts : List ℕ) (observations : List Observation) where
  abbrev pub AllRuns : (I : Inner) → Original I.rules → Type 0
  AllRuns I O = (lent : Lent) (results : List ℕ) → Granted setup counts observations lent results
      → let M = session words setup counts observations in
      (acts : List (Act M)) → Runs I.rules O M (view words setup counts observations I) (opened words setup counts lent results) acts

abbrev pub EveryRun : Type 0
EveryRun = (setup : Setup) (counts : List ℕ) (observations : List Observation)
    → (setup.effects ≡ 1 → AllRuns setup counts observations inner1 original1)
    × (setup.effects ≡ 2 → AllRuns setup counts observations inner2 original2)
