-- Demand 3 for every session, `every_session` (specs/Claim.antt): the machine's turns and entries are lawful, and the theorem over any lawful machine does the rest. Assumes nothing.
use mathlib.Core.Path.{◌≡◌, refl, sym, subst}
use mathlib.Core.Bool.{true, false}
use mathlib.Core.List.{List}
use Prim.Native.Nat.{ℕ, ◌*◌, ◌≤◌, ◌<◌}
use native.Mathlib.Omega.{arith}
use lib.Dec.{T, eqb}
use lib.ListN.{length}
use Rattle.float64.specs.Pick.{both, cases}
use Rattle.likelihood.specs.declared.population_focei.Observation.{Observation}
use Rattle.setup.specs.Admission.{is_no_omega, is_no_shape, with_parameters}
use Rattle.setup.specs.declared.Setup.{Setup}
use Rattle.setup.specs.declared.Lent.{Lent}
use Rattle.setup.proofs.Bounds.{not_first, shape_low}
use Rattle.search.specs.Subjects as B
use Rattle.machine.specs.Claim.{Demand3}
use Rattle.machine.specs.Lawful.{Lawful}
use Rattle.machine.specs.Machine.{Machine, Act}
use Rattle.machine.proofs.Session.{demand3}
use Rattle.population.specs.Kept.{Store, words}
use Rattle.population.specs.Population.{rows_of}
use Rattle.session.specs.Session as N
use Rattle.session.specs.Session.{Held, session, set_warm, opened, opens}
use Rattle.session_theorems.proofs.Plain.{positive}
use Rattle.session_theorems.specs.Claim.{Holds3, EverySession}
use Rattle.session_theorems.specs.Inner.{Inner, inner1, inner2, view}
use Rattle.session_theorems.proofs.Accepted.{Accepts, rows_within, accepts}
use Rattle.session_theorems.proofs.Entries.{enters}
use Rattle.session_theorems.proofs.Fitting.{Fits, zero_fits}
use Rattle.session_theorems.proofs.Lengths.{zeros_length}
use Rattle.session_theorems.proofs.Searches.{Suits, suits1, suits2}
use Rattle.session_theorems.proofs.Standing.{Standing}
use Rattle.session_theorems.proofs.Stores.{Trusted, words_trusted}
use Rattle.session_theorems.proofs.Turns.{turns}

-- the setup's own parameters are its own
same_setup : (S : Store) (setup : Setup) (counts : List ℕ) (observations : List Observation) → with_parameters setup (N.no_parameters S setup counts) ≡ setup
unfolding with_parameters
same_setup S setup counts observations = cases (λ (x : _). record {
  effects = setup.effects;
  omega00 = x;
  omega01 = setup.omega01;
  omega10 = setup.omega10;
  omega11 = setup.omega11;
  eta_bound = setup.eta_bound;
  gradient_tolerance = setup.gradient_tolerance;
  width = setup.width;
  k = setup.k;
  additive_sd = setup.additive_sd;
  output_budget = setup.output_budget;
  max_evaluations = setup.max_evaluations;
} ≡ setup) (eqb setup.effects 1) (λ t. refl) (λ t. refl)

module _ (S : Store) (setup : Setup) (counts : List ℕ) (observations : List Observation) (I : Inner) (Q : Suits I setup.effects) (U : Trusted S setup.k) (bound : Fits setup.eta_bound)
    (limit : setup.max_evaluations < 4294967296)
    (lent : Lent) (results : List ℕ) (a : Accepts setup counts lent) where
  abbrev M : Machine
  M = session S setup counts observations

  abbrev Stands : Held S → Type 0
  Stands = Standing S setup counts observations I Q U

  -- the host sets the warm starts
  pub sets : (warm : List ℕ) (h : Held S) → Stands h → Stands (set_warm S setup counts warm h)
  unfolding set_warm
  sets warm h s = both Stands _ (record {
    subject = s.subject;
    roomy = s.roomy;
    limit = s.limit;
    omega_in = s.omega_in;
    shape_in = s.shape_in;
    warm_fits = s.warm_fits;
    pointed = s.pointed;
    count = s.count;
    trust = s.trust;
    few = s.few;
    waiting = λ t. let v = s.waiting t in record { eta = v.eta; wants = v.wants; passed = v.passed; missing = v.missing; fewer = v.fewer };
  }) s

  sets_awaits : (warm : List ℕ) (h : Held S) → (set_warm S setup counts warm h).whole.progress.awaits ≡ h.whole.progress.awaits
  unfolding set_warm
  sets_awaits warm h = both (λ (x : Held S). x.whole.progress.awaits ≡ h.whole.progress.awaits) _ refl refl

  sets_tally : (warm : List ℕ) (h : Held S) → (set_warm S setup counts warm h).whole.tally.calls.0 ≡ h.whole.tally.calls.0
  unfolding set_warm
  sets_tally warm h = both (λ (x : Held S). x.whole.tally.calls.0 ≡ h.whole.tally.calls.0) _ refl refl

  pub lawful : Lawful I.rules I.claims M (view S setup counts observations I) Stands
  lawful = record {
    turns = λ h s l. turns S setup counts observations I Q U bound a.most h s;
    enters = λ c h s. enters S setup counts observations I Q U bound (omega (arith, limit)) a.some (rows_within a) c h s;
    enough = Q.enough (length counts) a.most;
    limited = λ h s. s.limit;
    writes_sound = sets;
    writes_awaits = sets_awaits;
    writes_tally = sets_tally;
  }

  pub opens_standing : Stands (opened S setup counts lent results)
  unfolding B.begin_subject
  opens_standing =
      let e = sym (same_setup S setup counts observations) in
      record {
        subject = a.some;
        roomy = λ i l. subst (λ (n : ℕ). 12 * rows_of counts i ≤ n) (sym (zeros_length lent.work)) (let f = (a.each i l).1 in omega (arith, f, a.work_lent));
        limit = omega arith;
        omega_in = subst (λ (x : Setup). is_no_omega x ≡ false) e a.omega_in;
        shape_in = subst (λ (x : Setup). is_no_shape x ≡ false) e a.shape_in;
        warm_fits = zero_fits;
        pointed = Q.pointed_start setup.effects 0 0 _ _ _;
        count = 0;
        trust = U.opens lent.cache a.cache_lent;
        few = omega arith;
        waiting = λ t. absurd (subst T (sym t) tt);
      }

  holds : (acts : List (Act M)) → Demand3 I.rules I.claims M (view S setup counts observations I) (opened S setup counts lent results) acts
  unfolding B.begin_subject
  holds acts = demand3 I.rules I.claims Q.proved M (view S setup counts observations I) Stands lawful (opened S setup counts lent results) opens_standing refl refl acts

-- K is from 1 to 100,000
pub some_room : (setup : Setup) → is_no_shape setup ≡ false → 1 ≤ setup.k
unfolding is_no_shape
some_room setup e =
    let no : true ≡ false → ⊥ = λ q. subst T q tt in
    let b = not_first _ _ no e in
    let t = not_first _ _ no b.1 in
    let v = not_first _ _ no t.1 in
    let n = not_first _ _ no v.1 in
    positive setup.k (not_first _ _ no n.1).0

pub for_words : (setup : Setup) (counts : List ℕ) (observations : List Observation) (I : Inner) → Suits I setup.effects → Holds3 words setup counts observations I
for_words setup counts observations I Q bound limit lent results e acts =
    let a = accepts setup counts lent (N.all_checked setup counts observations) e in
    holds words setup counts observations I Q (words_trusted setup.k (some_room setup a.shape_in) (shape_low {b = false} setup (sym a.shape_in) refl)) bound limit lent results a acts

pub every_session : EverySession
every_session setup counts observations =
    (λ e. for_words setup counts observations inner1 (subst (Suits inner1) (sym e) suits1), λ e. for_words setup counts observations inner2 (subst (Suits inner2) (sym e) suits2))
