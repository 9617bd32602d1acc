-- Demand 3 for every session: after any accepted setup, over every list of calls, with the warm starts set between objectives.
use Rattle.std.specs.Prelude.{◌≡◌, List, ℕ, ◌<◌, T, Ok}
use Rattle.std.specs.Float.{binary64}
use Rattle.std.specs.Float.Ieee.{fits}
use Rattle.likelihood.specs.declared.population_focei.Observation.{Observation}
use Rattle.setup.specs.declared.Setup.{Setup}
use Rattle.setup.specs.declared.Lent.{Lent}
use Rattle.machine.specs.Machine.{Act}
use Rattle.machine.specs.Claim.{Demand3}
use Rattle.population.specs.Kept.{Store, words}
use Rattle.session.specs.Session.{opened, opens, session}
use Rattle.session_theorems.specs.Inner.{Inner, inner1, inner2, view}

module _ (S : Store) (setup : Setup) (counts : List ℕ) (observations : List Observation) where
  -- the session that the setup opened, whatever its calls. eta_bound is a float of the format, and max_evaluations a u32, as every value
  -- of the code is.
  abbrev pub Holds3 : Inner → Type 0
  Holds3 I = T (fits binary64 setup.eta_bound) → setup.max_evaluations < 4294967296
      → (lent : Lent) (results : List ℕ) → opens S setup counts observations lent ≡ Ok tt
      → let M = session S setup counts observations in
      (acts : List (Act M))
      → Demand3 I.rules I.claims M (view S setup counts observations I) (opened S setup counts lent results) acts

-- with one effect, and with two, for the kept evaluations in lent words
abbrev pub EverySession : Type 0
EverySession = (setup : Setup) (counts : List ℕ) (observations : List Observation)
    → (setup.effects ≡ 1 → Holds3 words setup counts observations inner1)
    × (setup.effects ≡ 2 → Holds3 words setup counts observations inner2)
