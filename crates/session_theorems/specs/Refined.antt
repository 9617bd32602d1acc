-- The lent words of the kept evaluations are no part of what a session does: its answers, where it stands, its tally, work words, warm
-- starts and results are those of the same machine over the list that the words stand for.
use Rattle.std.specs.Prelude.{◌≡◌, ◌⊎◌, List, [], ◌∷◌, ℕ, ◌<◌, T, Ok}
use Rattle.std.specs.Float.{binary64}
use Rattle.std.specs.Float.Ieee.{fits}
use Rattle.likelihood.specs.declared.population_focei.Observation.{Observation}
use Rattle.cache.specs.Cache.{Cache}
use Rattle.cache.specs.Kept.{Entry, Stands}
use Rattle.setup.specs.declared.Setup.{Setup}
use Rattle.setup.specs.declared.Parameters.{Parameters}
use Rattle.setup.specs.declared.Lent.{Lent}
use Rattle.search.specs.declared.Progress.{Progress}
use Rattle.search.specs.declared.Tally.{Tally}
use Rattle.machine.specs.Machine.{call, Act, calls, sets, run}
use Rattle.population.specs.Kept.{Store, words, entries}
use Rattle.population.specs.Population.{whole_of}
use Rattle.session.specs.Session.{Held, held, Call, session, opened, opens}

-- what a host does: it calls, or sets the warm starts
pub data Deed : Type 0 where
  does : Call → Deed
  warms : List ℕ → Deed

module _ (S : Store) (setup : Setup) (counts : List ℕ) (observations : List Observation) where
  abbrev pub act_of : Deed → Act (session S setup counts observations)
  act_of (does c) = calls c
  act_of (warms warm) = sets warm

  abbrev pub acts_of : List Deed → List (Act (session S setup counts observations))
  acts_of [] = []
  acts_of (d ∷ ds) = act_of d ∷ acts_of ds

-- alike but for the kept evaluations: there the words stand for the list, in a room of k rows
pub data Alike (k : ℕ) : Held words → Held entries → Type 0 where
  alike : (parameters : Parameters) (progress : Progress) (tally : Tally) (c : Cache) (l : List Entry) (work warm results : List ℕ)
      → Stands c.words k c.order l
      → Alike k (held words parameters (whole_of words progress tally c work warm results))
      (held entries parameters (whole_of entries progress tally l work warm results))

module _ (setup : Setup) (counts : List ℕ) (observations : List Observation) (lent : Lent) (results : List ℕ) (deeds : List Deed) where
  -- where the deeds have come to
  abbrev pub reached : (S : Store) → Held S
  reached S = run (session S setup counts observations) (opened S setup counts lent results) (acts_of S setup counts observations deeds)

  -- after any list of deeds the two are alike, and one call more has the same answer
  pub record SameAnswers : Type 0 where
    pub stays : Alike setup.k (reached words) (reached entries)
    pub answers : (c : Call)
        → (call (session words setup counts observations) c (reached words)).answer
        ≡ (call (session entries setup counts observations) c (reached entries)).answer

abbrev pub OverTheList : Type 0
OverTheList = (setup : Setup) (counts : List ℕ) (observations : List Observation) → (setup.effects ≡ 1) ⊎ (setup.effects ≡ 2)
    → T (fits binary64 setup.eta_bound) → setup.max_evaluations < 4294967296
    → (lent : Lent) (results : List ℕ) → opens words setup counts observations lent ≡ Ok tt
    → (deeds : List Deed) → SameAnswers setup counts observations lent results deeds
