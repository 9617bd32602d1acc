-- What the entry of a call does, whatever is lent: it refuses and alters nothing, it ends the objective, or it goes on to the requests from a place that they are enough for. Assumes nothing.
use Rattle.std.specs.Prelude.{Err, None, Ok, Option, Some}
use mathlib.Core.Path.{◌≡◌, refl, sym, ap, subst, ◌∙◌}
use mathlib.Core.Bool.{true}
use mathlib.Core.List.{List}
use mathlib.Core.Logic.{◌⊎◌, inl, inr}
use Prim.Native.Nat.{ℕ, suc, ◌+◌, ◌-◌, ◌≤◌, ◌<◌, ◌^◌}
use native.Mathlib.Omega.{arith}
use borrow.Author.Tests.{ltb-true, ltb-false}
use lib.Dec.{ltb, eqb}
use lib.ListN.{get_or, length, take, drop, length-take}
use Rattle.float64.specs.Pick.{both, cases}
use Rattle.matrix.specs.declared.Pair.{Pair}
use Rattle.likelihood.specs.declared.population_focei.Observation.{Observation}
use Rattle.subject.specs.Claim.{Evaluates}
use Rattle.subject.specs.Subject.{begin, add_observations, evaluating, finish, Evaluation}
use Rattle.subject.specs.declared.Sums.{Sums}
use Rattle.subject.specs.declared.Trial.{Trial}
use Rattle.subject.proofs.Ends.{evaluates}
use Rattle.cache.specs.Kept.{Evaluated}
use Rattle.cache.proofs.Run.{refinement}
use Rattle.words.specs.Words.{zeros}
use Rattle.work.specs.Work.{block}
use Rattle.setup.specs.Admission.{is_cohort, roomy, checks_of, checks, admitted, Admission}
use Rattle.setup.specs.declared.Lent.{Lent}
use Rattle.setup.specs.declared.Parameters.{Parameters}
use Rattle.setup.specs.declared.Setup.{Setup}
use Rattle.setup.proofs.Bounds.{not_first, cohort_low}
use Rattle.search.specs.Subjects as B
use Rattle.search.specs.declared.Fit.{Fit}
use Rattle.search.specs.declared.Place.{Place}
use Rattle.search.specs.declared.Place.TheVariants as At
use Rattle.search.specs.declared.Progress.{Progress}
use Rattle.search.specs.declared.Step.{Step}
use Rattle.search.specs.declared.Step.TheVariants as Answers
use Rattle.search.proofs.Fits.{fit_effects, fit_k}
use Rattle.machine.specs.Machine.{Moved, on, halt, onward, loop}
use Rattle.population.specs.Kept.{words, order_rows}
use Rattle.population.specs.Population.{rows_of, spent, receive, take as takes}
use Rattle.session.specs.Calls.{entered}
use Rattle.session.specs.Session as S
use Rattle.session.specs.Session.{Held, Call, objective, reply, failure, fuel, is_standing, standing, turn_held, when_admitted, enter}
use Rattle.session_theorems.specs.Refusals.{AltersNothing, EndsObjective, Carries}
use Rattle.session_theorems.proofs.Endings.{Tells, Says, Answered, Ahead, Going, comes_to, never_spent}
use Rattle.session_theorems.proofs.Evaluated.{work_length}
use Rattle.session_theorems.proofs.Lengths.{move_rows_length}
use Rattle.session_theorems.proofs.Plain.{false_not_true}
use Rattle.session_theorems.proofs.Remaining.{Goes, StandsBy, LeftBy, points, begins, placed}
use Rattle.session_theorems.proofs.Standing.{advanced_alike}
use Rattle.subject.specs.declared.EvaluationError.TheVariants as E
use Rattle.setup.specs.declared.AdmissionError.TheVariants as A
use Rattle.subject.specs.Observations.{Check}
use Rattle.setup.specs.declared.Counts.{Counts}
use Rattle.mode.specs.declared.Request.{Request}
use Rattle.mode.specs.declared.Request.TheVariants as Wants

-- ---- 1 to 5: accepted only with 4,096 subjects at most
unfoldable pub Judged : ℕ → Admission → Type 0
Judged subjects (Ok tt) = subjects ≤ 4096
Judged subjects (Err (A.Refused n)) = (AltersNothing n) × (Carries n At.Nowhere)
Judged subjects (Err (A.Unsound place)) = Unit

pub plain : (subjects n : ℕ) → 1 ≤ n → n ≤ 5 → Carries n At.Nowhere → Judged subjects (Err (A.Refused n))
unfolding Judged
plain subjects n low high carries = (inl (low, omega (arith, high)), carries)

pub one : (subjects : ℕ) → Judged subjects (Err (A.Refused 1))
one subjects = plain subjects 1 (omega arith) (omega arith) (inl (omega arith, omega arith))

pub unheard : (subjects : ℕ) → Judged subjects (Err (A.Refused 19))
unfolding Judged
unheard subjects = (inr refl, inr (inr (inr refl)))

room_judged : (setup : Setup) (subjects total largest : ℕ) (lent : Lent) → subjects ≤ 4096 → (check : Check) → Judged subjects (roomy setup subjects total largest lent check)
unfolding Judged roomy
room_judged setup subjects total largest lent few (Ok place) = both (Judged subjects) _ (plain subjects 5 (omega arith) (omega arith) (inr (inl refl))) few
room_judged setup subjects total largest lent few (Err place) = tt

pub counts_judged : (setup : Setup) (subjects : ℕ) (lent : Lent) (check : Check) (c : Option Counts) → Judged subjects (checks_of setup subjects lent check c)
unfolding checks_of admitted
counts_judged setup subjects lent check (Some n) =
    let P = Judged subjects in
    cases P (is_cohort setup.effects subjects n.total lent.observations)
    (λ t. both P _ (plain subjects 2 (omega arith) (omega arith) (inl (omega arith, omega arith))) (both P _ (plain subjects 3 (omega arith) (omega arith) (inl (omega arith, omega arith)))
    (room_judged setup subjects n.total n.largest lent (cohort_low {b = true} setup.effects subjects n.total lent.observations (sym t) refl).1 check)))
    (λ f. one subjects)
counts_judged setup subjects lent check None = one subjects

rows_few : (counts : List ℕ) (i : ℕ) → rows_of counts i ≤ 100000
unfolding rows_of
rows_few counts i = cases (λ (n : ℕ). n ≤ 100000) (ltb (get_or counts i 0) 100000) (λ t. let l : get_or counts i 0 < 100000 = ltb-true _ _ t in omega (arith, l)) (λ f. omega arith)

-- ---- what an evaluation is refused with: 8, 9 or 12, or at an observation 10, 11 or 12
abbrev Refusal : ℕ → Place → Type 0
Refusal n place = (8 ≤ n) × (n ≤ 12) × Carries n place

unfoldable pub Late : Evaluation → Type 0
Late (Ok sums) = Unit
Late (Err (E.Refused n)) = (subject : ℕ) → Refusal n (At.Subject subject)
Late (Err (E.RefusedAt n i)) = (subject : ℕ) → Refusal n (At.Observation subject i)

one_of : (P : ℕ → Type 0) (n a b c : ℕ) → (n ≡ a) ⊎ ((n ≡ b) ⊎ (n ≡ c)) → P a → P b → P c → P n
one_of P n a b c (inl e) i j k = subst P (sym e) i
one_of P n a b c (inr (inl e)) i j k = subst P (sym e) j
one_of P n a b c (inr (inr e)) i j k = subst P (sym e) k

pub late : (trial : Trial) (budget : ℕ) (said : List ℕ) (os : List Observation) (work : List ℕ) → length os < 2 ^ 64
    → Late (finish (add_observations trial said os (evaluating (begin said trial.width trial.effects budget) work)).evaluation)
unfolding Late
late trial budget said os work few = by _ refl
  where
    numbers : Evaluates trial budget said os work
    numbers = evaluates trial budget said os work few

    by : (x : Evaluation) → finish (add_observations trial said os (evaluating (begin said trial.width trial.effects budget) work)).evaluation ≡ x → Late x
    by (Ok sums) d = tt
    by (Err (E.Refused n)) d = λ subject. one_of (λ (k : ℕ). Refusal k (At.Subject subject)) n 8 9 12 (numbers.numbers n d)
        (omega arith, omega arith, inl (omega arith, omega arith)) (omega arith, omega arith, inl (omega arith, omega arith)) (omega arith, omega arith, inr (omega arith, omega arith))
    by (Err (E.RefusedAt n i)) d = λ subject. one_of (λ (k : ℕ). Refusal k (At.Observation subject i)) n 10 11 12 (numbers.places n i d).0
        (omega arith, omega arith, inr (omega arith, omega arith)) (omega arith, omega arith, inr (omega arith, omega arith)) (omega arith, omega arith, inr (omega arith, omega arith))

-- ---- the numbers of a call's end, with c evaluations in the tally before
abbrev pub OfSearch : ℕ → Type 0
OfSearch n = (13 ≤ n) × (n ≤ 16)

pub record Ending (most c : ℕ) (n : ℕ) (place : Place) (calls : ℕ) : Type 0 where
  pub number : EndsObjective n
  pub carries : Carries n place
  pub rise : (calls ≡ c) ⊎ ((calls ≡ suc c) × (c < most))
  pub six : n ≡ 6 → (calls ≡ c) × (most ≤ c)

pub endings : (most c : ℕ) → Tells OfSearch (Ending most c) most c
endings most c = record {
  known = λ n a b. (a, b);
  ended = λ n i a.
      let low = a.0 in
      let high = a.1 in
      record { number = (omega (arith, low), omega (arith, high)); carries = inr (omega (arith, low), omega (arith, high)); rise = inl refl; six = λ e. absurd (omega (arith, low, e)) };
  limit = λ i l. record { number = (omega arith, omega arith); carries = inl (omega arith, omega arith); rise = inl refl; six = λ e. (refl, l) };
  wild = λ i l. record { number = (omega arith, omega arith); carries = inl (omega arith, omega arith); rise = inr (refl, l); six = λ e. absurd (omega (arith, e)) };
  mode = λ n i a b. record { number = (omega (arith, a), omega (arith, b)); carries = inr (omega (arith, a), omega (arith, b)); rise = inl refl; six = λ e. absurd (omega (arith, a, e)) };
  total = record { number = (omega arith, omega arith); carries = inr (inr (inl refl)); rise = inl refl; six = λ e. absurd (omega (arith, e)) };
}

-- ---- a search that 19 lets pass, among the subjects; and what it wants
abbrev pub Stood : Setup → List ℕ → Progress → Type 0
Stood setup counts p = (p.subject < length counts) × StandsBy (eqb setup.effects 2) 6343 p

abbrev pub wanted_at : Setup → Held words → Request Pair
wanted_at setup u = B.wanted_by (B.fit_of setup u.parameters) u.whole.progress

-- ---- a call on what is held as h
module _ (setup : Setup) (counts : List ℕ) (h : Held words) where
  abbrev most : ℕ
  most = setup.max_evaluations

  abbrev c : ℕ
  c = h.whole.tally.calls.0

  abbrev L : ℕ
  L = length h.whole.work

  abbrev Goes_on : ℕ → Held words → Type 0
  Goes_on = Going OfSearch (Ending most c) setup counts L c setup.k (endings most c)

  abbrev pub Answers_with : Step → Held words → Type 0
  Answers_with = Answered OfSearch (Ending most c) setup counts L c setup.k (endings most c)

  -- a refusal that alters nothing
  pub record Stays (a : Step) (t : Held words) : Type 0 where
    pub number : ℕ
    pub place : Place
    pub answer : a ≡ Answers.Refused (B.refusal number place)
    pub same : t ≡ h
    pub unaltering : AltersNothing number
    pub carries : Carries number place

  abbrev pub Done : Step → Held words → Type 0
  Done a t = (Stays a t) ⊎ (Answers_with a t)

  unfoldable pub Enters : Moved (Held words) Step → Type 0
  Enters (on t) = (length counts ≤ 4096) × Goes_on fuel t
  Enters (halt a t) = Done a t

  pub done : (m : Moved (Held words) Step) → Enters m → Done (entered setup counts m).answer (entered setup counts m).state
  unfolding Enters onward
  done (on t) e = inr (comes_to _ _ setup counts L c setup.k (endings most c) e.0 t e.1)
  done (halt a t) e = e

  pub unspent : (t : Held words) → Enters (on t) → (other : Step) (more : ℕ) → loop (turn_held words setup counts) other (fuel + more) t ≡ loop (turn_held words setup counts) spent fuel t
  unfolding Enters
  unspent t e = never_spent _ _ setup counts L c setup.k (endings most c) e.0 t e.1

  -- ---- 1 to 5 and 19
  stays : (n : ℕ) → AltersNothing n → Carries n At.Nowhere → Enters (S.unaltered words n At.Nowhere h)
  unfolding Enters
  stays n u carries = inl (record { number = n; place = At.Nowhere; answer = refl; same = refl; unaltering = u; carries = carries })

  pub nineteen : Enters (S.unaltered words 19 At.Nowhere h)
  nineteen = stays 19 (inr refl) (inr (inr (inr refl)))

  pub admits : (go : Moved (Held words) Step) (a : Admission) → Judged (length counts) a → (a ≡ Ok tt → length counts ≤ 4096 → Enters go) → Enters (when_admitted words h go a)
  unfolding when_admitted Judged Enters
  admits go (Ok tt) j f = f refl j
  admits go (Err (A.Refused n)) j f = stays n j.0 j.1
  admits go (Err (A.Unsound at)) j f =
      inl (record { number = 4; place = _; answer = refl; same = refl; unaltering = inl (omega arith, omega arith); carries = inl refl })

  -- ---- an evaluation's refusal, and the simulator's: u holds as much
  pub record Like (u : Held words) : Type 0 where
    pub work : length u.whole.work ≡ L
    pub calls : u.whole.tally.calls.0 ≡ c
    pub rows : u.whole.tally.cached_rows.0 ≤ setup.k
    pub kept : words.rows u.whole.kept ≤ setup.k

  pub over : (u : Held words) → Like u → (n : ℕ) (place : Place) → Refusal n place → Enters (S.over words n place u)
  unfolding Enters S.over Says B.idle B.with_search
  over u l n place r =
      let low = r.0 in
      let high = r.1 in
      inr (record {
        says = (refl, record { number = (omega (arith, low), omega (arith, high)); carries = r.2; rise = inl l.calls; six = λ e. absurd (omega (arith, low, e)) });
        zeroed = λ e. ap zeros l.work;
        rows = l.rows;
      })

  -- ---- a search goes on with a reply
  pub stood : (n : ℕ) → standing words setup counts n h.whole ≡ true → Stood setup counts h.whole.progress
  unfolding is_standing
  stood n e = placed OfSearch (endings most c).known setup.effects counts n h.whole.progress (not_first _ _ false_not_true (not_first _ _ false_not_true e).1).1

  -- and few rows are kept
  pub like : (n : ℕ) → standing words setup counts n h.whole ≡ true → Like h
  unfolding is_standing
  like n e =
      let tallied = not_first _ _ false_not_true e in
      record { work = refl; calls = refl; rows = ltb-false _ _ tallied.0; kept = ltb-false _ _ (not_first _ _ false_not_true tallied.1).0 }

  module _ (u : Held words) (l : Like u) (stands : Stood setup counts u.whole.progress) (eta : Pair) (wants : wanted_at setup u ≡ Wants.Point eta) (few : length counts ≤ 4096) where
    abbrev fit : Fit
    fit = B.fit_of setup u.parameters

    abbrev p : Progress
    p = u.whole.progress

    abbrev Left : ℕ → Progress → Type 0
    Left effects q = LeftBy OfSearch (endings most c).known (eqb effects 2) (6343 - 1) q

    next : (sums : Sums) → Left fit.effects (B.advance_by fit p eta sums).progress
    unfolding Goes
    next sums =
        let g = points OfSearch (endings most c).known fit p 6343 (subst (λ (k : ℕ). StandsBy (eqb k 2) 6343 p) (sym (fit_effects setup u.parameters)) stands.1) in
        let at : Goes 6343 ((x : Pair) (sums : Sums) → Left fit.effects (B.advance_by fit p x sums).progress) (Wants.Point eta) = subst (Goes 6343 _) wants g in
        at.1 eta sums

    ahead : (sums : Sums) → Ahead OfSearch (Ending most c) setup counts L c setup.k (endings most c) fuel (B.advance_by fit p eta sums).progress
    ahead sums =
        let e = (advanced_alike fit p eta sums).subject in
        record {
          subject = subst (λ (i : ℕ). i < length counts) (sym e) stands.0;
          left = 6343 - 1;
          search = subst (λ (k : ℕ). Left k (B.advance_by fit p eta sums).progress) (fit_effects setup u.parameters) (next sums);
          enough = omega (arith, few);
        }

    few_kept : (sums : Sums) (work : List ℕ)
        → words.rows (words.keep u.whole.kept fit.k (B.key_of fit p.subject eta) (B.terms_of sums) (rows_of counts p.subject) work (block (rows_of counts p.subject) 3)) ≤ setup.k
    unfolding order_rows
    few_kept sums work =
        let rows = rows_of counts p.subject in
        let x : Evaluated = record { key = B.key_of fit p.subject eta; terms = B.terms_of sums; n = rows; rows = work; from = block rows 3 } in
        let same = fit_k setup u.parameters in
        subst (λ (k : ℕ). words.rows (words.keep u.whole.kept fit.k x.key x.terms rows work x.from) ≤ k) same
        (refinement.bounded u.whole.kept.words fit.k u.whole.kept.order x (subst (λ (k : ℕ). words.rows u.whole.kept ≤ k) (sym same) l.kept))

    pub replies : (work : List ℕ) → length work ≡ L → (x : Evaluation) → Late x → Enters (S.replied words counts fit eta u work x)
    unfolding Enters S.replied Late receive takes
    replies work long (Ok sums) z = (few, record { ahead = ahead sums; work = move_rows_length _ _ work ∙ long; calls = l.calls; rows = few_kept sums work })
    replies work long (Err (E.Refused n)) z = over u l n _ (z p.subject)
    replies work long (Err (E.RefusedAt n i)) z = over u l n _ (z p.subject)

  -- ---- the calls of a session, with n observations lent, of which `check` was found
  module _ (n : ℕ) (check : Check) where
    judged : (parameters : Parameters) → Judged (length counts) (S.admitted words setup counts n check parameters h.whole)
    unfolding S.admitted checks
    judged parameters = counts_judged _ (length counts) _ check _

    objectives : (parameters : Parameters) → Enters (S.enter_objective words setup counts n check parameters h)
    unfolding S.enter_objective
    objectives parameters =
        both Enters _ nineteen
        (cases Enters (standing words setup counts n h.whole)
        (λ t. admits _ _ (judged parameters) (λ e few. begun few (stood n t).0 (like n t).rows)) (λ f. nineteen))
      where
        begun : length counts ≤ 4096 → h.whole.progress.subject < length counts → h.whole.tally.cached_rows.0 ≤ setup.k → Enters (on (S.begun words setup counts parameters h.whole))
        begun few some rows = unfold Enters S.begun B.begin_subject in (
          few,
          record {
            ahead = record { subject = omega (arith, some); left = 6343; search = begins OfSearch (endings most c).known _ _ 0 0 _ _ _; enough = omega (arith, few) };
            work = refl;
            calls = refl;
            rows = rows;
          },
        )

    awaited : (go : Pair → Moved (Held words) Step)
        → ((eta : Pair) → Like h → Stood setup counts h.whole.progress → wanted_at setup h ≡ Wants.Point eta → length counts ≤ 4096 → Enters (go eta))
        → Enters (S.when_awaited words setup counts n check h go)
    unfolding S.when_awaited
    awaited go f = both Enters _ (cases Enters (standing words setup counts n h.whole) (λ t. at (like n t) (stood n t) _ refl) (λ g. nineteen)) nineteen
      where
        at : Like h → Stood setup counts h.whole.progress → (v : Request Pair) → wanted_at setup h ≡ v → Enters (S.at_wanted words setup counts n check h go v)
        at l s (Wants.Point eta) e = unfold S.at_wanted in admits _ _ (judged h.parameters) (λ q. f eta l s e)
        at l s Wants.Mode e = unfold S.at_wanted in nineteen
        at l s (Wants.Refused k) e = unfold S.at_wanted in nineteen

  module _ (observations : List Observation) where
    answered : (said : List ℕ) (eta : Pair) → Like h → Stood setup counts h.whole.progress → wanted_at setup h ≡ Wants.Point eta → length counts ≤ 4096
        → Enters (S.answered words setup counts observations said eta h)
    unfolding S.answered
    answered said eta l s e few =
        let p = h.whole.progress in
        let rows = rows_of counts p.subject in
        let os = take rows (drop p.first observations) in
        let trial = S.trial_of words setup counts (B.fit_of setup h.parameters) p in
        replies h l s eta e few _ (work_length trial said setup.width setup.effects setup.output_budget os h.whole.work) _
        (late trial setup.output_budget said os h.whole.work (short (rows_few counts p.subject) (drop p.first observations)))
      where
        short : {rows : ℕ} → rows ≤ 100000 → (os : List Observation) → length (take rows os) < 2 ^ 64
        short {rows} l os = let t = length-take rows os in omega (arith, l, t)

    pub enters : (call : Call) → Enters (enter words setup counts observations call h)
    unfolding enter S.enter_reply S.enter_failure
    enters (objective parameters) = objectives (length observations) (S.all_checked setup counts observations) parameters
    enters (reply said) = awaited (length observations) (S.all_checked setup counts observations) _ (answered said)
    enters failure = awaited (length observations) (S.all_checked setup counts observations) _ (λ eta l s e few. over h l 8 _ (omega arith, omega arith, inl (omega arith, omega arith)))
