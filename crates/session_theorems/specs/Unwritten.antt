-- What a call leaves alone, in every session: the words of the subjects whose mode it does not reach, and those beyond the last subject's.
use Rattle.std.specs.Prelude.{◌≡◌, List, ℕ, suc, ◌+◌, ◌*◌, ◌≤◌, ◌<◌, eqb, length, get_or}
use Rattle.float64.specs.Pick.{pick}
use Rattle.likelihood.specs.declared.population_focei.Observation.{Observation}
use Rattle.setup.specs.declared.Setup.{Setup}
use Rattle.setup.specs.declared.Lent.{Lent}
use Rattle.search.specs.declared.Place.{Place}
use Rattle.search.specs.declared.Place.TheVariants.{Nowhere, Subject, Observation as AtObservation}
use Rattle.search.specs.declared.Step.{Step}
use Rattle.search.specs.declared.Step.TheVariants.{Asked, Finished, Refused}
use Rattle.machine.specs.Machine.{call, Act, run}
use Rattle.population.specs.Kept.{words}
use Rattle.session.specs.Session.{Held, Call, session, opened}
use Rattle.session_theorems.specs.Shown.{before}
use Rattle.session_theorems.specs.Setup.{Granted}
use Rattle.work.specs.Work.{result_words, fitted_words}

module _ (setup : Setup) (counts : List ℕ) where
  -- the result words of the subjects from i on, with their predictions, and the warm starts of those from k on, are as they were
  pub record Stays (i k : ℕ) (h t : Held words) : Type 0 where
    pub results : (x : ℕ) → result_words * i ≤ x → x < result_words * length counts
        → get_or t.whole.results x 0 ≡ get_or h.whole.results x 0
    pub predictions : (x : ℕ) → result_words * length counts + fitted_words * before counts i ≤ x
        → get_or t.whole.results x 0 ≡ get_or h.whole.results x 0
    pub warm : (x : ℕ) → setup.effects * k ≤ x → get_or t.whole.warm x 0 ≡ get_or h.whole.warm x 0

  -- a subject that is refused gets no result, and a warm start with 17 alone; the later ones get nothing
  abbrev pub StaysAt : ℕ → ℕ → Held words → Held words → Type 0
  StaysAt number i h t = Stays i (pick (eqb number 17) (suc i) i) h t

  -- the words beyond those of the last subject
  abbrev pub StaysBeyond : Held words → Held words → Type 0
  StaysBeyond h t = Stays (length counts) (length counts) h t

  -- what a refusal about this place leaves
  abbrev pub StaysBy : ℕ → Place → Held words → Held words → Type 0
  StaysBy number Nowhere h t = StaysBeyond h t
  StaysBy number (Subject i) h t = StaysAt number i h t
  StaysBy number (AtObservation i n) h t = StaysAt number i h t

  -- from the state h to t, with this answer
  abbrev pub Unwritten : Held words → Step → Held words → Type 0
  Unwritten h (Asked eta individual) t = let i = t.whole.progress.subject in Stays i i h t
  Unwritten h (Finished ofv) t = StaysBeyond h t
  Unwritten h (Refused why) t = StaysBy why.number why.place h t

-- one call more, after any list of calls, in the session that an accepted setup opened
abbrev pub EveryUnwritten : Type 0
EveryUnwritten = (setup : Setup) (counts : List ℕ) (observations : List Observation) (lent : Lent) (results : List ℕ)
    → Granted setup counts observations lent results → let M = session words setup counts observations in
    (acts : List (Act M)) (c : Call) → let h = run M (opened words setup counts lent results) acts in
    let r = call M c h in Unwritten setup counts h r.answer r.state
