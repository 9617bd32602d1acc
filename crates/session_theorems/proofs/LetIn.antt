-- A session lets in what it awaits, `let_in` (specs/LetIn.antt). Assumes nothing.
use Rattle.std.specs.Prelude.{Err, None, Ok, Option, Some}
use mathlib.Core.Path.{◌≡◌, refl, sym, ap, subst, ◌∙◌}
use mathlib.Core.Bool.{Bool, true, false}
use mathlib.Core.List.{List}
use mathlib.Core.Logic.{⊎_elim}
use Prim.Native.Nat.{ℕ, ◌+◌, ◌^◌, ◌≤◌, ◌<◌}
use native.Mathlib.Omega.{arith}
use borrow.Author.Tests.{lt-ltb, le-ltb}
use lib.Dec.{eqb}
use lib.ListN.{length, take, drop, length-take}
use Rattle.float64.specs.Pick.{both, cases, pick_yes, pick_no}
use Rattle.matrix.specs.declared.Pair.{Pair}
use Rattle.likelihood.specs.declared.population_focei.Observation.{Observation}
use Rattle.subject.specs.Claim.{Evaluates}
use Rattle.subject.specs.Subject.{Evaluating, finish, Evaluation}
use Rattle.subject.proofs.Ends.{evaluates}
use Rattle.cache.specs.Claim.{Room}
use Rattle.setup.specs.Admission.{is_no_omega, is_no_shape, is_cohort, admitted, checks_of, checks, count_observations, roomy, is_short, with_parameters, within, Admission}
use Rattle.setup.specs.declared.Setup.{Setup}
use Rattle.setup.specs.declared.Parameters.{Parameters}
use Rattle.setup.specs.declared.Lent.{Lent}
use Rattle.setup.proofs.Bounds.{not_first, shape_low}
use Rattle.search.specs.Subjects as B
use Rattle.search.specs.declared.Fit.{Fit}
use Rattle.search.specs.declared.Place.{Place}
use Rattle.search.specs.declared.Step.{Step}
use Rattle.search.specs.declared.Step.TheVariants as Answers
use Rattle.machine.specs.Machine.{Moved, on, Machine, call, Act, run}
use Rattle.machine.specs.Observed.{View}
use Rattle.population.specs.Kept.{words}
use Rattle.population.specs.Population.{rows_of}
use Rattle.session.specs.Session as N
use Rattle.session.specs.Session.{Held, Call, objective, reply, failure, session}
use Rattle.session_theorems.specs.Inner.{Inner, inner1, inner2, point_wanted, view}
use Rattle.session_theorems.specs.LetIn.{admission, wanted_point, Ruled, LetIn, EveryCall}
use Rattle.session_theorems.proofs.Accepted.{Accepts, rows_within, accepts}
use Rattle.session_theorems.proofs.Always.{Says, after_turn, after_entry, after_both, run_keeps}
use Rattle.session_theorems.proofs.Entries.{enters}
use Rattle.session_theorems.proofs.Fitting.{Fits}
use Rattle.session_theorems.proofs.Limits.{within2_true}
use Rattle.session_theorems.proofs.Placed.{Other19, Going, turns_going, turns_say, enters_going, sets_going, opens_going, observations_lent}
use Rattle.session_theorems.proofs.Refined.{checks_same}
use Rattle.session_theorems.proofs.Requests.{answers}
use Rattle.session_theorems.proofs.Searches.{Suits, suits1, suits2}
use Rattle.session_theorems.proofs.Session.{sets, lawful, opens_standing, some_room}
use Rattle.session_theorems.proofs.Standing.{Standing}
use Rattle.session_theorems.proofs.Stores.{Trusted, words_trusted, kept_rows_lem, kept_lent}
use Rattle.session_theorems.proofs.Turns.{turns}
use Rattle.session_theorems.proofs.Plain.{Not19, before_19, one_not_19}
use Rattle.subject.specs.declared.EvaluationError.TheVariants as E
use Rattle.setup.specs.declared.AdmissionError.TheVariants as A
use Rattle.subject.specs.Observations.{Check}
use Rattle.setup.specs.declared.Counts.{Counts}
use Rattle.mode.specs.declared.Request.{Request}
use Rattle.mode.specs.declared.Request.TheVariants as Wants

-- ---- the numbers of 1 to 5
unfoldable pub NumberOther : Admission → Type 0
NumberOther (Ok tt) = Unit
NumberOther (Err (A.Refused n)) = Not19 n
NumberOther (Err (A.Unsound place)) = Unit

roomy_other : (setup : Setup) (subjects total largest : ℕ) (lent : Lent) (check : Check) → NumberOther (roomy setup subjects total largest lent check)
unfolding NumberOther roomy
roomy_other setup subjects total largest lent (Ok place) = both NumberOther _ (before_19 (omega arith)) tt
roomy_other setup subjects total largest lent (Err place) = tt

pub checks_other : (setup : Setup) (subjects : ℕ) (lent : Lent) (check : Check) (c : Option Counts) → NumberOther (checks_of setup subjects lent check c)
unfolding NumberOther checks_of admitted
checks_other setup subjects lent check (Some n) = both NumberOther _ (both NumberOther _ (before_19 (omega arith))
    (both NumberOther _ (before_19 (omega arith)) (roomy_other setup subjects n.total n.largest lent check))) (before_19 (omega arith))
checks_other setup subjects lent check None = before_19 (omega arith)

-- ---- 1 to 5 with an objective's own parameters: only 2 and 3 can refuse where the setup's own pass
module _ (setup : Setup) (parameters : Parameters) (subjects : ℕ) (lent : Lent) (o : is_no_omega (with_parameters setup parameters) ≡ false) (s : is_no_shape (with_parameters setup parameters) ≡ false)
  where
    own_room : (total largest : ℕ) (check : Check) → roomy (with_parameters setup parameters) subjects total largest lent check ≡ roomy setup subjects total largest lent check
    unfolding roomy is_short with_parameters
    own_room total largest (Ok place) = refl
    own_room total largest (Err place) = refl

    own_admitted : (total largest : ℕ) (check : Check) → admitted setup subjects total largest lent check ≡ Ok tt → admitted (with_parameters setup parameters) subjects total largest lent check ≡
        Ok tt
    unfolding admitted
    own_admitted total largest check e =
        let a = not_first (is_no_omega setup) _ (λ q. let z : ◌≡◌ {A = ℕ} 0 1 = cc in omega arith) e in
        let b = not_first (is_no_shape setup) _ (λ q. let z : ◌≡◌ {A = ℕ} 0 1 = cc in omega arith) a.1 in
        pick_no _ _ _ o ∙ pick_no _ _ _ s ∙ own_room total largest check ∙ b.1

    own_checks : (check : Check) (c : Option Counts) → checks_of setup subjects lent check c ≡ Ok tt → checks_of (with_parameters setup parameters) subjects lent check c ≡ Ok tt
    unfolding checks_of with_parameters
    own_checks check (Some n) e =
        cases (λ (x : Admission). x ≡ Ok tt → checks_of (with_parameters setup parameters) subjects lent check (within n.total n.largest) ≡ Ok tt)
        (is_cohort setup.effects subjects n.total lent.observations)
        (λ t q. pick_yes _ _ _ t ∙ own_admitted n.total n.largest check q) (λ t q. absurd (let z : ◌≡◌ {A = ℕ} 0 1 = cc in omega arith)) e
    own_checks check None e = e

module _ (setup : Setup) (counts : List ℕ) (observations : List Observation) (I : Inner) (Q : Suits I setup.effects) (bound : Fits setup.eta_bound)
    (limit : setup.max_evaluations < 4294967296)
    (lent : Lent) (results : List ℕ) (many : length observations ≡ lent.observations) (long : length results ≡ lent.results) (opens : N.opens words setup counts observations lent ≡ Ok tt)
    (a : Accepts setup counts lent) (room : Room setup.k) where
  abbrev U : Trusted words setup.k
  U = words_trusted setup.k room.some room.most

  abbrev M : Machine
  M = session words setup counts observations

  abbrev Y : View I.rules M
  Y = view words setup counts observations I

  abbrev Stands : Held words → Type 0
  Stands = Standing words setup counts observations I Q U

  abbrev Goes : Held words → Type 0
  Goes = Going setup counts observations lent a

  -- ---- a whole session
  pub both_hold : (acts : List (Act M)) → Stands (run M (N.opened words setup counts lent results) acts) × Goes (run M (N.opened words setup counts lent results) acts)
  both_hold acts =
      run_keeps M (λ (h : Held words). Stands h × Goes h)
      (λ h p. after_both Stands Goes _ (after_turn I.rules I.claims M Y Stands h (turns words setup counts observations I Q U bound a.most h p.0))
      (turns_going setup counts observations lent a h p.1))
      (λ c h p. after_both Stands Goes _ (after_entry I.rules I.claims M Y Stands c h p.0 (enters words setup counts observations I Q U bound (omega (arith, limit)) a.some (rows_within a)
      c h p.0))
      (enters_going setup counts observations lent a h p.1 c))
      (λ warm h p. (sets words setup counts observations I Q U bound limit lent results a warm h p.0, sets_going setup counts observations lent a h p.1 warm))
      acts (N.opened words setup counts lent results)
      (opens_standing words setup counts observations I Q U bound limit lent results a, opens_going setup counts observations lent a results long)

  -- ---- wherever it stands
  module _ (h : Held words) (s : Stands h) (g : Goes h) where
    abbrev n : ℕ
    n = length observations

    abbrev check : Check
    check = N.all_checked setup counts observations

    rows_kept : words.rows h.whole.kept ≤ setup.k
    rows_kept = kept_rows_lem setup.k room.some room.most s.count h.whole.kept s.trust

    few_rows : h.whole.tally.cached_rows.0 ≤ setup.k
    few_rows = subst (λ (m : ℕ). m ≤ setup.k) (sym g.rows) rows_kept

    rows_lent : h.whole.progress.first + rows_of counts h.whole.progress.subject ≤ n
    rows_lent = let l = observations_lent setup counts observations lent a lent.observations a.largest a.adds h g in omega (arith, l, many)

    placed : N.standing words setup counts n h.whole ≡ true
    unfolding N.is_standing N.is_placed
    placed =
        pick_no _ _ _ (le-ltb _ _ few_rows) ∙ pick_no _ _ _ (le-ltb _ _ rows_kept) ∙ pick_yes _ _ false (lt-ltb _ _ g.place.subject) ∙ pick_no _ false _ (le-ltb _ _ rows_lent)
        ∙ both (λ (b : Bool). b ≡ true) (eqb setup.effects 2) (within2_true _ g.place.two) g.place.one

    others : (parameters : Parameters) → is_no_omega (with_parameters setup parameters) ≡ false → is_no_shape (with_parameters setup parameters) ≡ false → admission setup counts observations parameters h ≡
        Ok tt
    unfolding N.admitted with_parameters checks
    others parameters o k =
        checks_same (with_parameters setup parameters) (N.lent_of words setup n h.whole) lent g.work g.warm g.results many
        (kept_lent setup.k room.some room.most s.count h.whole.kept s.trust) a.cache_lent counts check
        ∙ own_checks setup parameters (length counts) lent o k check (count_observations counts) opens

    accepted : admission setup counts observations h.parameters h ≡ Ok tt
    accepted = others h.parameters s.omega_in s.shape_in

    awaited : h.whole.progress.awaits ≡ true → (go : Pair → Moved (Held words) Step) → N.when_awaited words setup counts n check h go ≡ go (wanted_point setup counts observations h)
    unfolding N.when_awaited
    awaited t go = pick_yes _ _ _ t ∙ pick_yes _ _ _ placed ∙ at (B.wanted_by (B.fit_of setup h.parameters) h.whole.progress) (s.waiting t).eta (s.waiting t).wants
      where
        at : (v : Request Pair) (eta : Pair) → v ≡ Wants.Point eta → N.at_wanted words setup counts n check h go v ≡ go (point_wanted v)
        at (Wants.Point x) eta e = unfold N.at_wanted N.when_admitted in ap (N.when_admitted words h (go x)) accepted
        at Wants.Mode eta e = absurd (let z : ◌≡◌ {A = ℕ} 0 1 = cc in omega arith)
        at (Wants.Refused k) eta e = absurd (let z : ◌≡◌ {A = ℕ} 0 1 = cc in omega arith)

    -- ---- what an entry answers
    over_says : (number : ℕ) → Not19 number → (place : Place) → Says Other19 (N.over words number place h)
    unfolding Says Other19 N.over
    over_says number l place = l

    admitted_says : (go : Moved (Held words) Step) → Says Other19 go → (m : Admission) → NumberOther m → Says Other19 (N.when_admitted words h go m)
    unfolding Says Other19 NumberOther N.when_admitted
    admitted_says go l (Ok tt) b = l
    admitted_says go l (Err (A.Refused n)) b = b
    admitted_says go l (Err (A.Unsound place)) b = before_19 (omega arith)

    begun_says : (parameters : Parameters) → Says Other19 (N.when_admitted words h (on (N.begun words setup counts parameters h.whole))
        (admission setup counts observations parameters h))
    unfolding Says N.admitted checks
    begun_says parameters = admitted_says _ tt _ (checks_other _ (length counts) _ check (count_observations counts))

    answered_says : (said : List ℕ) (eta : Pair) → Says Other19 (N.answered words setup counts observations said eta h)
    unfolding N.answered
    answered_says said eta = by_end (finish ended.evaluation) refl
      where
        fit : Fit
        fit = B.fit_of setup h.parameters

        rows : ℕ
        rows = rows_of counts h.whole.progress.subject

        os : List Observation
        os = take rows (drop h.whole.progress.first observations)

        ended : Evaluating
        ended = N.evaluated words setup counts observations fit said h.whole.progress h.whole.work

        few : length os < 2 ^ 64
        few = let l = (rows_within a h.whole.progress.subject g.place.subject).1 in omega (arith, l, length-take rows (drop h.whole.progress.first observations))

        numbers : Evaluates (N.trial_of words setup counts fit h.whole.progress) setup.output_budget said os h.whole.work
        numbers = evaluates _ setup.output_budget said os h.whole.work few

        by_end : (x : Evaluation) → finish ended.evaluation ≡ x → Says Other19 (N.replied words counts fit eta h ended.work x)
        by_end (Ok sums) d = unfold Says N.replied in tt
        by_end (Err (E.Refused n)) d = unfold N.replied in over_says n (one_not_19 n 8 9 12 (numbers.numbers n d) (before_19 (omega arith)) (before_19 (omega arith)) (before_19 (omega arith))) _
        by_end (Err (E.RefusedAt n i)) d = unfold N.replied in over_says n (one_not_19 n 10 11 12 (numbers.places n i d).0 (before_19 (omega arith)) (before_19 (omega arith)) (before_19 (omega arith))) _

    enters_say : (c : Call) → Ruled setup counts observations c h → Says Other19 (N.enter words setup counts observations c h)
    unfolding N.enter N.enter_reply N.enter_failure N.enter_objective
    enters_say (objective parameters) t = subst (Says Other19) (sym (pick_no _ _ _ t ∙ pick_yes _ _ _ placed)) (begun_says parameters)
    enters_say (reply said) t = subst (Says Other19) (sym (awaited t _)) (answered_says said _)
    enters_say failure t = subst (Says Other19) (sym (awaited t _)) (over_says 8 (before_19 (omega arith)) _)

    not_19 : (a : Step) → Other19 a → (place : Place) → a ≡ Answers.Refused (B.refusal 19 place) → ⊥
    unfolding Other19
    not_19 a l place e = let b : Not19 19 = subst Other19 e l in b refl

    lets_in : ((c : Call) → Ruled setup counts observations c h → Other19 (call M c h).answer) → LetIn setup counts observations h
    unfolding N.enter_reply N.enter_failure N.enter_objective
    lets_in other = record {
      placed = placed;
      accepted = accepted;
      others = others;
      replies = λ t said. awaited t _;
      fails = λ t. awaited t _;
      begins = λ t parameters. pick_no _ _ _ t ∙ pick_yes _ _ _ placed;
      never19 = λ c t place. not_19 (call M c h).answer (other c t) place;
    }

  holds : (acts : List (Act M)) → LetIn setup counts observations (run M (N.opened words setup counts lent results) acts)
  unfolding B.begin_subject
  holds acts =
      let b = both_hold acts in
      lets_in _ b.0 b.1
      (λ c t. answers I.rules I.claims Q.proved M Y Stands (lawful words setup counts observations I Q U bound limit lent results a) (λ h s. s.subject)
      Goes (λ h g. turns_going setup counts observations lent a h g) Other19 (λ h g. turns_say setup counts observations lent a h g)
      (N.opened words setup counts lent results) (opens_standing words setup counts observations I Q U bound limit lent results a) refl refl acts c
      (enters_going setup counts observations lent a _ b.1 c) (enters_say _ b.0 b.1 c t))

pub let_in : EveryCall
let_in setup counts observations lent results b acts =
    let a = accepts setup counts lent (N.all_checked setup counts observations) b.passes in
    let room : Room setup.k = record { some = some_room setup a.shape_in; most = shape_low {b = false} setup (sym a.shape_in) refl } in
    ⊎_elim (λ (one : setup.effects ≡ 1). holds setup counts observations inner1 (subst (Suits inner1) (sym one) suits1) b.bound b.limit lent results b.many b.long b.passes a room acts)
    (λ (two : setup.effects ≡ 2). holds setup counts observations inner2 (subst (Suits inner2) (sym two) suits2) b.bound b.limit lent results b.many b.long b.passes a room acts)
    a.effects
