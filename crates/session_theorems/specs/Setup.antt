-- What an accepted setup has seen to when a session begins; and that the session which it opened, as the code gives it back, is the one
-- that demand 3 speaks of.
use Rattle.std.specs.Prelude.{◌≡◌, List, ℕ, ◌<◌, T, length, Ok}
use Rattle.std.specs.Float.{binary64}
use Rattle.std.specs.Float.Ieee.{fits}
use Rattle.likelihood.specs.declared.population_focei.Observation.{Observation}
use Rattle.setup.specs.declared.Lent.{Lent}
use Rattle.setup.specs.declared.Setup.{Setup}
use Rattle.search.specs.declared.Tally.{Tally}
use Rattle.population.specs.Kept.{words}
use Rattle.session.specs.Calls.{held_of, lent_by, opened_by, Setting}
use Rattle.session.specs.Session.{all_checked, opened, opens}
use Rattle.session.specs.declared.State.{State}

-- 1 to 5 pass of what is lent, and `lent` counts the observations and the results that are there. eta_bound is a float of the format, and
-- max_evaluations a u32, as every value of the code is.
pub record Granted (setup : Setup) (counts : List ℕ) (observations : List Observation) (lent : Lent) (results : List ℕ) : Type 0 where
  pub bound : T (fits binary64 setup.eta_bound)
  pub limit : setup.max_evaluations < 4294967296
  pub many : length observations ≡ lent.observations
  pub long : length results ≡ lent.results
  pub passes : opens words setup counts observations lent ≡ Ok tt

module _ (setup : Setup) (counts : List ℕ) (observations : List Observation) (tally : Tally) (cache work warm results : List ℕ) where
  -- what setup gives back, and the words as it leaves them
  abbrev pub setting : Setting
  setting = opened_by setup counts (length observations) (all_checked setup counts observations) tally cache work warm results

  -- how much is lent
  abbrev pub lent : Lent
  lent = lent_by (length observations) (length cache) (length work) (length warm) (length results)

  -- 1 to 5 pass, and what setup gives back is the state that the session begins with
  pub record Opens (s : State) : Type 0 where
    pub passes : opens words setup counts observations lent ≡ Ok tt
    pub begins : held_of s setting.begun.tally setting.cache setting.work setting.warm results
        ≡ opened words setup counts lent results

abbrev pub EverySetup : Type 0
EverySetup = (setup : Setup) (counts : List ℕ) (observations : List Observation) (tally : Tally) (cache work warm results : List ℕ)
    → (s : State) → (setting setup counts observations tally cache work warm results).begun.opening ≡ Ok s
    → Opens setup counts observations tally cache work warm results s
