-- Refusals and the end of an objective, for all that a host may lend: the proof of specs/Refusals. Assumes nothing.
use Rattle.std.specs.Prelude.{Err, Ok}
use mathlib.Core.Path.{◌≡◌, refl, sym, ap, subst, ◌∙◌}
use mathlib.Core.Bool.{true, false}
use mathlib.Core.List.{List}
use mathlib.Core.Logic.{inl, inr, ⊎_elim}
use Prim.Native.Nat.{ℕ, suc, ◌-◌, ◌≤◌, ◌<◌}
use native.Mathlib.Omega.{arith}
use borrow.Author.Tests.{lt-ltb, le-ltb, eq-eqb, ne_eqb, ltb-false}
use lib.Dec.{ltb, eqb}
use lib.ListN.{get_or, set, length, take, drop, length-take}
use lib.Seq.{get_or-set_same, get_or-set_other}
use Rattle.float64.specs.Answer.{Answer, given, refused, through}
use Rattle.float64.specs.Pick.{pick, both, cases, pick_yes, pick_no, pick_same}
use Rattle.matrix.specs.declared.Pair.{Pair}
use Rattle.likelihood.specs.declared.population_focei.Observation.{Observation}
use Rattle.subject.specs.Subject.{Evaluating, evaluating, begin, add_observations, finish, Evaluation}
use Rattle.subject.specs.declared.Trial.{Trial}
use Rattle.words.specs.Words.{zeros}
use Rattle.work.specs.Work.{most_rows}
use Rattle.cache.specs.declared.CacheOrder.{CacheOrder}
use Rattle.setup.specs.Admission.{is_cohort, checks_of, checks, with_parameters, Admission}
use Rattle.setup.specs.declared.Lent.{Lent}
use Rattle.setup.specs.declared.Parameters.{Parameters}
use Rattle.setup.specs.declared.Setup.{Setup}
use Rattle.setup.proofs.Bounds.{not_first}
use Rattle.setup.specs.SubjectChecks.{subject_checks}
use Rattle.search.specs.Subjects as B
use Rattle.search.specs.Subjects.{fit_of}
use Rattle.search.specs.declared.Place.{Place}
use Rattle.search.specs.declared.SubjectSearch.{SubjectSearch}
use Rattle.search.specs.declared.Place.TheVariants as At
use Rattle.search.specs.declared.Step.{Step}
use Rattle.search.specs.declared.Step.TheVariants as Answers
use Rattle.search.specs.declared.Tally.{Tally}
use Rattle.machine.specs.Machine.{Moved, Ran, ran, onward, call}
use Rattle.population.specs.Kept.{words, order_rows}
use Rattle.population.specs.Population.{rows_of}
use Rattle.session.specs.Calls.{held_of, lent_by, state_of, entered, opened_by, opening, stands, awaited_point, awaited_for, trial_by, nothing_admitted, admitted_over, finish_reply}
use Rattle.session.proofs.Loops.{own_finish}
use Rattle.session.specs.Session as S
use Rattle.session.specs.Session.{Held, Call, objective, reply, failure, fuel, is_placed, is_standing, when_admitted, enter, session, all_checked}
use Rattle.session.specs.declared.Admitted.{Admitted}
use Rattle.session.specs.declared.Awaited.{Awaited}
use Rattle.session.specs.declared.State.{State}
use Rattle.state_words.specs.SessionWords as W
use Rattle.state_words.specs.SessionWords.{loaded_state, saved_state}
use Rattle.state_words.proofs.Back.{saved_first}
use Rattle.session.specs.SubjectReply.{subject_awaited, admit_subject_reply}
use Rattle.host_calls.specs.Hosting as H
use Rattle.host_calls.specs.Hosting.{Out, out, did, unknown, with_state, answered, place_words, is_unaltered, finish_with, setup_over, call_over}
use Rattle.host_calls.specs.declared.AnswerWords.{AnswerWords}
use Rattle.host_calls.specs.SubjectReplies.{subject_checked, admit_subject_with, subject_reply_over}
use Rattle.session_theorems.specs.Refusals.{Exported, opens, calls, replies, Lending, does, AltersNothing, EndsObjective, Carries, Awaits, kept_by, OutOfTurn, EveryRefusal, SixOnlyAtTheLimit}
use Rattle.session_theorems.specs.Refusals.{ZerosAfterAnEnd, KeptWithin, NeverSpent, ForAllWords}
use Rattle.session_theorems.proofs.Accepted.{is_cohort_lem}
use Rattle.session_theorems.proofs.Endings.{Tells, Says, Going, never_spent}
use Rattle.session_theorems.proofs.Entered.{Judged, counts_judged, one, unheard, late, stood, Like, like, Done, Enters, Stood, wanted_at, done, unspent, admits, replies as goes_on, enters, Ending}
use Rattle.session_theorems.proofs.Entered.{Answers_with}
use Rattle.session_theorems.proofs.Evaluated.{work_length}
use Rattle.session_theorems.proofs.Remaining.{lifts, placed}
use Rattle.setup.specs.declared.AdmissionError.TheVariants as A
use Rattle.mode.specs.declared.Request.{Request}
use Rattle.mode.specs.declared.Request.TheVariants as Wants

-- ---- numbers
unaltered_yes : (n : ℕ) → AltersNothing n → is_unaltered n ≡ true
unfolding is_unaltered
unaltered_yes n (inl l) = let a = l.0 in let b = l.1 in pick_no _ _ _ (ne_eqb n 0 (λ e. omega (arith, a, e))) ∙ pick_yes _ _ _ (lt-ltb n 6 (omega (arith, b)))
unaltered_yes n (inr e) = pick_no _ _ _ (ne_eqb n 0 (λ z. omega (arith, e, z))) ∙ pick_no _ _ _ (le-ltb n 6 (omega (arith, e))) ∙ eq-eqb n 19 e

pub unaltered_no : (n : ℕ) → EndsObjective n → is_unaltered n ≡ false
unfolding is_unaltered
unaltered_no n l = let a = l.0 in let b = l.1 in pick_no _ _ _ (ne_eqb n 0 (λ e. omega (arith, a, e))) ∙ pick_no _ _ _ (le-ltb n 6 a) ∙ ne_eqb n 19 (λ e. omega (arith, b, e))

-- ---- the first word of an answer, and of a state
answer_word : (a : AnswerWords) (answer : List ℕ) → 1 ≤ length answer → get_or (answered a answer) 0 0 ≡ a.kind
unfolding answered
answer_word a answer l =
    let one = set answer 0 a.kind in
    let two = set one 1 a.first in
    let three = set two 2 a.second in
    let four = set three 3 a.third in
    get_or-set_other four 4 0 a.fourth 0 (λ e. omega (arith, e)) ∙ get_or-set_other three 3 0 a.third 0 (λ e. omega (arith, e)) ∙ get_or-set_other two 2 0 a.second 0 (λ e. omega (arith, e))
    ∙ get_or-set_other one 1 0 a.first 0 (λ e. omega (arith, e)) ∙ get_or-set_same answer 0 a.kind 0 l

saved_word : (s : State) (state : List ℕ) → W.state_size ≤ length state → get_or (saved_state s state) 0 0 ≡ W.flag s.progress.awaits
unfolding W.state_words W.objective_words
saved_word s state l = ap (λ (w : List ℕ). get_or w 0 0) (saved_first s state l)

awaited_word : (s : State) (state : List ℕ) → W.state_size ≤ length state → s.progress.awaits ≡ true → Awaits (saved_state s state)
unfolding W.flag
awaited_word s state l e = saved_word s state l ∙ pick_yes _ _ _ e

idle_word : (s : State) (state : List ℕ) → W.state_size ≤ length state → s.progress.awaits ≡ false → Awaits (saved_state s state) → ⊥
unfolding W.flag
idle_word s state l e a = let z : get_or (saved_state s state) 0 0 ≡ 0 = saved_word s state l ∙ pick_no _ _ _ e in omega (arith, a, z)

-- ---- words that are a state: word 0 is 1 where a reply is awaited, word 8 the subject, and words 14 to 17 the positions of the kept evaluations
pub record Loaded (state : List ℕ) (s : State) : Type 0 where
  pub long : W.state_size ≤ length state
  pub awaits : s.progress.awaits ≡ eqb (get_or state 0 0) 1
  pub subject : s.progress.subject ≡ get_or state 8 0
  pub order : s.order ≡ W.order_at state

abbrev Reads : List ℕ → State → Type 0
Reads state s = (s.progress.awaits ≡ eqb (get_or state 0 0) 1) × (s.progress.subject ≡ get_or state 8 0) × (s.order ≡ W.order_at state)

search_loaded : (state : List ℕ) (s : State) (l : Answer SubjectSearch) → through (W.state_at state) l ≡ given s → Reads state s
unfolding through W.state_at W.progress_at
search_loaded state s (given x) e =
    let q : W.state_at state x ≡ s = cc in (ap (λ (t : State). t.progress.awaits) (sym q), ap (λ (t : State). t.progress.subject) (sym q), ap (λ (t : State). t.order) (sym q))
search_loaded state s (refused n) e = absurd (let z : ◌≡◌ {A = ℕ} 0 1 = cc in omega arith)

pub loaded : (state : List ℕ) (s : State) → loaded_state state ≡ given s → Loaded state s
unfolding loaded_state W.with_search
loaded state s e =
    let never : refused 19 ≡ given s → ⊥ = λ q. let z : ◌≡◌ {A = ℕ} 0 1 = cc in omega arith in
    let long = not_first (ltb (length state) W.state_size) _ never e in
    let flags = not_first _ _ never (not_first _ _ never long.1).1 in
    let r = search_loaded state s _ flags.1 in
    record { long = ltb-false _ _ long.0; awaits = r.0; subject = r.1; order = r.2 }

-- ---- what a call gives back and writes, with all that it was lent
module _ (setup : Setup) (counts : List ℕ) (observations : List Observation) (tally : Tally) (state answer cache work warm results : List ℕ) where
  abbrev most : ℕ
  most = setup.max_evaluations

  abbrev c : ℕ
  c = tally.calls.0

  abbrev h : State → Held words
  h s = held_of s tally cache work warm results

  -- 1 to 5 and 19
  abbrev kept : ℕ → Place → Out
  kept n place = out (record { number = n; tally = tally }) state (answered (place_words n place) answer) cache work warm results

  record Asks (o : Out) : Type 0 where
    number : o.told.done.number ≡ 0
    said : AnswerWords
    kind : said.kind ≡ 0
    answer_is : o.told.answer ≡ answered said answer
    awaits : Awaits o.told.state
    rise : o.told.done.tally.calls.0 ≡ suc c
    below : c < most
    rows : o.told.done.tally.cached_rows.0 ≤ setup.k

  record Finishes (o : Out) : Type 0 where
    number : o.told.done.number ≡ 0
    said : AnswerWords
    kind : said.kind ≡ 1
    answer_is : o.told.answer ≡ answered said answer
    idle : Awaits o.told.state → ⊥
    work_is : o.work ≡ zeros (length work)
    rise : o.told.done.tally.calls.0 ≤ c
    rows : o.told.done.tally.cached_rows.0 ≤ setup.k

  record Refuses (o : Out) : Type 0 where
    place : Place
    answer_is : o.told.answer ≡ answered (place_words o.told.done.number place) answer
    idle : Awaits o.told.state → ⊥
    work_is : o.work ≡ zeros (length work)
    ending : Ending most c o.told.done.number place o.told.done.tally.calls.0
    rows : o.told.done.tally.cached_rows.0 ≤ setup.k

  data Way (o : Out) : Type 0 where
    stays : (n : ℕ) (place : Place) → AltersNothing n → Carries n place → o ≡ kept n place → Way o
    asks : Asks o → Way o
    finishes : Finishes o → Way o
    refuses : Refuses o → Way o

  nobody : Way (unknown tally state answer cache work warm results)
  nobody = stays 19 At.Nowhere (inr refl) (inr (inr (inr refl))) refl

  -- ---- from what the machine did
  module _ (s : State) (long : W.state_size ≤ length state) where
    stayed : (n : ℕ) (place : Place) → AltersNothing n → did (ran (Answers.Refused (B.refusal n place)) (h s)) state answer ≡ kept n place
    unfolding H.told H.number_of H.answer_of
    stayed n place u = ap (λ (l : List ℕ). out (record { number = n; tally = tally }) l (answered (place_words n place) answer) cache work warm results) (pick_yes _ _ _ (unaltered_yes n u))

    went : (a : Step) (t : Held words) → Answers_with setup counts (h s) a t → Way (did (ran a t) state answer)
    unfolding Says H.told H.number_of H.answer_of is_unaltered B.is_over
    went (Answers.Asked eta v) t g =
        let q : pick (is_unaltered 0) state (saved_state (state_of t) state) ≡ saved_state (state_of t) state = pick_no _ _ _ (pick_yes _ _ _ refl) in
        asks (record {
          number = refl;
          said = _;
          kind = refl;
          answer_is = refl;
          awaits = subst Awaits (sym q) (awaited_word (state_of t) state long g.says.0);
          rise = g.says.1;
          below = g.says.2;
          rows = g.rows;
        })
    went (Answers.Finished ofv) t g =
        let q : pick (is_unaltered 0) state (saved_state (state_of t) state) ≡ saved_state (state_of t) state = pick_no _ _ _ (pick_yes _ _ _ refl) in
        finishes (record {
          number = refl;
          said = _;
          kind = refl;
          answer_is = refl;
          idle = λ x. idle_word (state_of t) state long g.says.0 (subst Awaits q x);
          work_is = g.zeroed refl;
          rise = let e = g.says.1 in omega (arith, e);
          rows = g.rows;
        })
    went (Answers.Refused why) t g =
        let r = g.says.1 in
        let q : pick (is_unaltered why.number) state (saved_state (state_of t) state) ≡ saved_state (state_of t) state = pick_no _ _ _ (unaltered_no why.number r.number) in
        refuses (record { place = why.place; answer_is = refl; idle = λ x. idle_word (state_of t) state long g.says.0 (subst Awaits q x); work_is = g.zeroed refl; ending = r; rows = g.rows })

    way : (z : Ran (Held words) Step) → Done setup counts (h s) z.answer z.state → Way (did z state answer)
    way z (inl k) = stays k.number k.place k.unaltering k.carries ((λ i. did (ran (k.answer i) (k.same i)) state answer) ∙ stayed k.number k.place k.unaltering)
    way z (inr g) = went z.answer z.state g

  -- ---- setup
  abbrev lent : Lent
  lent = lent_by (length observations) (length cache) (length work) (length warm) (length results)

  opens_way : W.state_size ≤ length state → (a : Admission) → Judged (length counts) a
      → Way (H.settled setup counts (length observations) (all_checked setup counts observations) tally state answer cache work warm results (opening setup counts lent tally cache work warm results a))
  unfolding Judged opening H.opened H.opened_to B.begin_subject
  opens_way long (Ok tt) j =
      finishes (record {
        number = refl;
        said = _;
        kind = refl;
        answer_is = refl;
        idle = idle_word (state_of (S.opened words setup counts lent results)) state long refl;
        work_is = refl;
        rise = omega arith;
        rows = omega arith;
      })
  opens_way long (Err (A.Refused n)) j = stays n At.Nowhere j.0 j.1 refl
  opens_way long (Err (A.Unsound at)) j = stays 4 _ (inl (omega arith, omega arith)) (inl refl) refl

  setup_way : Way (setup_over setup counts observations tally state answer cache work warm results)
  unfolding setup_over H.open_with opened_by checks
  setup_way = cases Way (ltb (length state) W.state_size) (λ t. nobody) (λ f. opens_way (ltb-false _ _ f) _ (counts_judged setup (length counts) lent (all_checked setup counts observations) _))

  -- ---- a new objective, a reply, a failure
  abbrev called_with : Call → Answer State → Out
  called_with x l = with_state (λ s. did (call (session words setup counts observations) x (h s)) state answer) (unknown tally state answer cache work warm results) l

  call_way : (x : Call) → Way (call_over setup counts observations tally state answer cache work warm results x)
  unfolding call_over
  call_way x = at (loaded_state state) refl
    where
      at : (l : Answer State) → loaded_state state ≡ l → Way (called_with x l)
      at (given s) e = unfold with_state call in way s (loaded state s e).long _ (done setup counts (h s) _ (enters setup counts (h s) observations x))
      at (refused n) e = unfold with_state in nobody

  -- ---- a reply that lends one subject's observations
  module _ (said : List ℕ) where
    abbrev evaluates : Admitted → Evaluating
    evaluates a = add_observations a.trial said (take (a.to - a.from) (drop a.from observations)) (evaluating a.evaluation work)

    -- what it comes to, let in or not
    abbrev ends_as : Admitted → State → Out
    ends_as a s = let e = evaluates a in did (finish_reply counts a.awaited e.evaluation (held_of s tally cache e.work warm results)) state answer

    abbrev told_to : Answer State → Out
    told_to l =
        let a = admit_subject_with setup counts lent (subject_checked setup counts observations state) tally said l in
        with_state (ends_as a) (unknown tally state answer cache (evaluates a).work warm results) l

    module _ (s : State) where
      abbrev judgement : Admission
      judgement = subject_checks (with_parameters setup s.parameters) counts s.progress.subject lent (subject_checked setup counts observations state)

      abbrev trial : Trial
      trial = trial_by setup s (rows_of counts s.progress.subject)

      -- for what the search wants
      abbrev wanting : Request Pair → Out
      wanting v = let w = awaited_for (fit_of setup s.parameters) judgement v in ends_as (admitted_over setup trial said w 0 (length observations) w.admission) s

      wanting_is : told_to (given s) ≡ wanting (awaited_point setup counts most_rows (fit_of setup s.parameters) s tally)
      unfolding with_state admit_subject_with admit_subject_reply subject_awaited
      wanting_is = refl

      judged : Judged (length counts) judgement
      unfolding subject_checks
      judged =
          both (Judged (length counts)) _ (one (length counts)) (both (Judged (length counts)) _ (one (length counts)) (counts_judged _ (length counts) lent _ _))

      abbrev count : ℕ
      count = get_or counts s.progress.subject 0

      few_lent : judgement ≡ Ok tt → length observations ≤ 100000
      unfolding subject_checks checks_of
      few_lent e =
          let never : ◌≡◌ {A = Admission} (Err (A.Refused 1)) (Ok tt) → ⊥ = λ q. let z : ◌≡◌ {A = ℕ} 0 1 = cc in omega arith in
          let low = not_first _ _ never (not_first _ _ never e).1 in
          let n : count ≤ 100000 = ltb-false _ _ low.0 in
          cases (λ (a : Admission). a ≡ Ok tt → length observations ≤ 100000) (is_cohort (with_parameters setup s.parameters).effects (length counts) count (length observations))
          (λ t q. let m = (is_cohort_lem _ (length counts) count (length observations) t).adds in omega (arith, n, m)) (λ f q. absurd (never q)) low.1

      abbrev awaited : Admission → Pair → Awaited
      awaited a eta = record { admission = a; eta = eta; fit = fit_of setup s.parameters }

      -- the second part of the reply is the machine's
      by_own : (a : Awaited) (e : Evaluation) (u : Held words) → a.fit ≡ fit_of setup u.parameters
          → Way (did (entered setup counts (S.when_admitted words u (S.replied words counts (fit_of setup u.parameters) a.eta u u.whole.work (finish e)) a.admission)) state answer)
          → Way (did (finish_reply counts a e u) state answer)
      by_own a e u q = subst (λ (z : Ran (Held words) Step). Way (did z state answer)) (sym (own_finish setup counts a e u q))

      -- not let in
      barred_way : W.state_size ≤ length state → (eta : Pair) (a : Admission) → (a ≡ Ok tt → ⊥) → Judged (length counts) a → (n : ℕ)
          → Way (ends_as (nothing_admitted (awaited a eta) trial n) s)
      barred_way long eta a never j n = by_own (awaited a eta) _ _ refl (way s long _ (done setup counts (h s) _ (admits setup counts (h s) _ a j (λ q. absurd (never q)))))

      refused_way : W.state_size ≤ length state → (eta : Pair) (n : ℕ) → Judged (length counts) (Err (A.Refused n))
          → Way (ends_as (admitted_over setup trial said (awaited (Err (A.Refused n)) eta) 0 (length observations) (Err (A.Refused n))) s)
      unfolding admitted_over
      refused_way long eta n j = barred_way long eta (Err (A.Refused n)) (λ q. let z : ◌≡◌ {A = ℕ} 0 1 = cc in omega arith) j n

      point_way : W.state_size ≤ length state → (eta : Pair) → Like setup counts (h s) (h s) → Stood setup counts s.progress → wanted_at setup (h s) ≡ Wants.Point eta
          → (a : Admission) → judgement ≡ a → Judged (length counts) a → Way (ends_as (admitted_over setup trial said (awaited a eta) 0 (length observations) a) s)
      unfolding admitted_over Judged when_admitted
      point_way long eta lk st wants (Ok tt) q j =
          let os = take (length observations - 0) (drop 0 observations) in
          let e = add_observations trial said os (evaluating (begin said setup.width setup.effects setup.output_budget) work) in
          let l = work_length trial said setup.width setup.effects setup.output_budget os work in
          let n = length-take (length observations - 0) (drop 0 observations) in
          let few = few_lent q in
          let u = held_of s tally cache e.work warm results in
          by_own (awaited (Ok tt) eta) e.evaluation u refl (way s long _ (done setup counts (h s) _ (goes_on setup counts (h s) u (record { work = l; calls = refl; rows = lk.rows; kept = lk.kept }) st eta wants j e.work l _
          (late trial setup.output_budget said os work (omega (arith, n, few))))))
      point_way long eta lk st wants (Err (A.Refused n)) q j = refused_way long eta n j
      point_way long eta lk st wants (Err (A.Unsound at)) q j = barred_way long eta (Err (A.Unsound at)) (λ q. let z : ◌≡◌ {A = ℕ} 0 1 = cc in omega arith) j 4

      -- a point is awaited only where the positions are right, and then it is what the search wants
      point_wanted_lem : (eta : Pair) → awaited_point setup counts most_rows (fit_of setup s.parameters) s tally ≡ Wants.Point eta
          → (stands setup counts most_rows s tally ≡ true) × (wanted_at setup (h s) ≡ Wants.Point eta)
      unfolding awaited_point
      point_wanted_lem eta =
          let never : Wants.Refused 19 ≡ Wants.Point eta → ⊥ = λ q. let z : ◌≡◌ {A = ℕ} 0 1 = cc in omega arith in
          let st = stands setup counts most_rows s tally in
          let P : Request Pair → Type 0 = λ (w : Request Pair). w ≡ Wants.Point eta → (st ≡ true) × (wanted_at setup (h s) ≡ Wants.Point eta) in
          cases P s.progress.awaits (λ t. cases P st (λ i q. (i, q)) (λ f q. absurd (never q))) (λ f q. absurd (never q))

      wanted_way : W.state_size ≤ length state → (v : Request Pair) → awaited_point setup counts most_rows (fit_of setup s.parameters) s tally ≡ v → Way (wanting v)
      unfolding awaited_for
      wanted_way long (Wants.Point eta) e = let w = point_wanted_lem eta e in point_way long eta (like setup counts (h s) most_rows w.0) (stood setup counts (h s) most_rows w.0) w.1 judgement refl judged
      wanted_way long Wants.Mode e = refused_way long _ 19 (unheard (length counts))
      wanted_way long (Wants.Refused n) e = refused_way long _ 19 (unheard (length counts))

    subject_way : Way (subject_reply_over setup counts observations tally state answer cache work warm results said)
    unfolding subject_reply_over finish_with
    subject_way = at (loaded_state state) refl
      where
        at : (l : Answer State) → loaded_state state ≡ l → Way (told_to l)
        at (given s) e = subst Way (sym (wanting_is s)) (wanted_way s (loaded state s e).long _ refl)
        at (refused n) e = unfold with_state admit_subject_with in nobody

  abbrev all : Lending
  all = record { setup = setup; counts = counts; observations = observations; tally = tally; state = state; answer = answer; cache = cache; work = work; warm = warm; results = results }

  ways : (x : Exported) → Way (does all x)
  ways opens = setup_way
  ways (calls x) = call_way x
  ways (replies said) = subject_way said

  -- ---- out of turn
  abbrev number_of_lem : Moved (Held words) Step → ℕ
  number_of_lem m = (did (entered setup counts m) state answer).told.done.number

  awaits_is : (s : State) → loaded_state state ≡ given s → Awaits state → s.progress.awaits ≡ true
  awaits_is s e a = (loaded state s e).awaits ∙ eq-eqb _ _ a

  idle_is : (s : State) → loaded_state state ≡ given s → (Awaits state → ⊥) → s.progress.awaits ≡ false
  idle_is s e a = (loaded state s e).awaits ∙ ne_eqb _ _ a

  -- 19 for the words that are no state, and for those whose entry is refused so
  Refused : Call → State → Type 0
  Refused x s = enter words setup counts observations x (h s) ≡ S.unaltered words 19 At.Nowhere (h s)

  called : (x : Call) → ((s : State) → loaded_state state ≡ given s → Refused x s) → (l : Answer State) → loaded_state state ≡ l → (called_with x l).told.done.number ≡ 19
  unfolding Refused with_state call onward H.told H.number_of
  called x f (given s) e = ap number_of_lem (f s e)
  called x f (refused n) e = refl

  objective_refused : Awaits state → (parameters : Parameters) (s : State) → loaded_state state ≡ given s → Refused (objective parameters) s
  unfolding Refused enter S.enter_objective
  objective_refused a parameters s e = pick_yes _ _ _ (awaits_is s e a)

  reply_refused : (Awaits state → ⊥) → (said : List ℕ) (s : State) → loaded_state state ≡ given s → Refused (reply said) s
  unfolding Refused enter S.enter_reply S.when_awaited
  reply_refused a said s e = pick_no _ _ _ (idle_is s e a)

  failure_refused : (Awaits state → ⊥) → (s : State) → loaded_state state ≡ given s → Refused failure s
  unfolding Refused enter S.enter_failure S.when_awaited
  failure_refused a s e = pick_no _ _ _ (idle_is s e a)

  -- no reply is awaited, or the positions are not right
  unwanted : (said : List ℕ) (s : State) → awaited_point setup counts most_rows (fit_of setup s.parameters) s tally ≡ Wants.Refused 19 → (told_to said (given s)).told.done.number ≡ 19
  unfolding awaited_for admitted_over finish_reply when_admitted onward H.told H.number_of
  unwanted said s e = ap (λ (o : Out). o.told.done.number) (wanting_is said s) ∙ ap (λ (v : Request Pair). (wanting said s v).told.done.number) e

  subject_refused : (said : List ℕ) → ((s : State) → loaded_state state ≡ given s → awaited_point setup counts most_rows (fit_of setup s.parameters) s tally ≡ Wants.Refused 19)
      → (l : Answer State) → loaded_state state ≡ l → (told_to said l).told.done.number ≡ 19
  unfolding with_state admit_subject_with
  subject_refused said f (given s) e = unwanted said s (f s e)
  subject_refused said f (refused n) e = refl

  -- ---- any call but setup: the positions are not right
  module _ (wrong : (n : ℕ) (s : State) → loaded_state state ≡ given s → stands setup counts n s tally ≡ false) where
    barred : (x : Call) (s : State) → loaded_state state ≡ given s → Refused x s
    unfolding Refused enter S.enter_objective S.enter_reply S.enter_failure S.when_awaited
    barred (objective parameters) s e = pick_same _ _ _ (pick_no _ _ _ (wrong _ s e))
    barred (reply said) s e = both (λ m. m ≡ S.unaltered words 19 At.Nowhere (h s)) _ (pick_no _ _ _ (wrong _ s e)) refl
    barred failure s e = both (λ m. m ≡ S.unaltered words 19 At.Nowhere (h s)) _ (pick_no _ _ _ (wrong _ s e)) refl

    unpointed : (s : State) → loaded_state state ≡ given s → awaited_point setup counts most_rows (fit_of setup s.parameters) s tally ≡ Wants.Refused 19
    unfolding awaited_point
    unpointed s e = both (λ (v : Request Pair). v ≡ Wants.Refused 19) _ (pick_no _ _ _ (wrong _ s e)) refl

    nineteen : (x : Exported) → (x ≡ opens → ⊥) → (does all x).told.done.number ≡ 19
    unfolding call_over subject_reply_over finish_with
    nineteen opens inside = absurd (inside refl)
    nineteen (calls x) inside = called x (barred x) (loaded_state state) refl
    nineteen (replies said) inside = subject_refused said unpointed (loaded_state state) refl

  misplaced : length counts ≤ get_or state 8 0 → (n : ℕ) (s : State) → loaded_state state ≡ given s → stands setup counts n s tally ≡ false
  unfolding is_standing is_placed
  misplaced far n s e =
      let q = (loaded state s e).subject in
      let beyond : length counts ≤ s.progress.subject = omega (arith, far, q) in
      pick_same _ _ _ (pick_same _ _ _ (pick_no _ _ _ (le-ltb _ _ beyond)))

  crowded : setup.k < tally.cached_rows.0 → (n : ℕ) (s : State) → loaded_state state ≡ given s → stands setup counts n s tally ≡ false
  unfolding is_standing
  crowded many n s e = pick_yes _ _ _ (lt-ltb _ _ many)

  overfull : setup.k < kept_by state → (n : ℕ) (s : State) → loaded_state state ≡ given s → stands setup counts n s tally ≡ false
  unfolding is_standing order_rows W.order_at
  overfull many n s e =
      let q = (loaded state s e).order in
      pick_same _ _ _ (pick_yes _ _ _ (lt-ltb _ _ (subst (λ (o : CacheOrder). setup.k < o.next_row - o.first_row) (sym q) many)))

  out_of_turn : OutOfTurn all
  unfolding call_over subject_reply_over finish_with setup_over H.open_with awaited_point
  out_of_turn = record {
    objectives = λ a parameters. called _ (objective_refused a parameters) (loaded_state state) refl;
    answers = λ a said. called _ (reply_refused a said) (loaded_state state) refl;
    subjects = λ a said. subject_refused said (λ s e. pick_no _ _ _ (idle_is s e a)) (loaded_state state) refl;
    failures = λ a. called _ (failure_refused a) (loaded_state state) refl;
    stateless = λ n e. nineteen (λ m s q. absurd (never n s (sym e ∙ q)));
    misplaced = λ far. nineteen (misplaced far);
    crowded = λ many. nineteen (crowded many);
    overfull = λ many. nineteen (overfull many);
    short = λ i. ap (λ (o : Out). o.told.done.number) (pick_yes _ _ _ (lt-ltb _ _ i));
  }
    where
      never : (n : ℕ) (s : State) → refused n ≡ given s → ⊥
      never n s q = let z : ◌≡◌ {A = ℕ} 0 1 = cc in omega arith

-- ---- what each way says
module _ (l : Lending) (x : Exported) where
  abbrev o : Out
  o = does l x

  abbrev Taken : Type 0
  Taken = Way l.setup l.counts l.observations l.tally l.state l.answer l.cache l.work l.warm l.results o

  apart : (n : ℕ) → n ≡ 0 → AltersNothing n → ⊥
  apart n e (inl i) = let a = i.0 in omega (arith, a, e)
  apart n e (inr i) = omega (arith, e, i)

  other : (n : ℕ) → EndsObjective n → AltersNothing n → ⊥
  other n i (inl m) = let a = i.0 in let b = m.1 in omega (arith, a, b)
  other n i (inr e) = let a = i.1 in omega (arith, a, e)

  abbrev Unaltered : ℕ → Type 0
  Unaltered n =
      (place : Place) × Carries n place × (o ≡ out (record { number = n; tally = l.tally }) l.state (answered (place_words n place) l.answer) l.cache l.work l.warm l.results)

  refusals_of : Taken → EveryRefusal l x
  refusals_of (stays n place u k e) =
      let same : o.told.done.number ≡ n = ap (λ (y : Out). y.told.done.number) e in
      record {
        numbers = inr (inl (subst AltersNothing (sym same) u));
        unaltered = λ v. subst Unaltered (sym same) (place, k, e);
        others = λ i. absurd (other _ i (subst AltersNothing (sym same) u));
      }
  refusals_of (asks k) = record { numbers = inl k.number; unaltered = λ v. absurd (apart _ k.number v); others = λ i. absurd (let a = k.number in let b = i.0 in omega (arith, a, b)) }
  refusals_of (finishes k) = record { numbers = inl k.number; unaltered = λ v. absurd (apart _ k.number v); others = λ i. absurd (let a = k.number in let b = i.0 in omega (arith, a, b)) }
  refusals_of (refuses k) = record { numbers = inr (inr k.ending.number); unaltered = λ v. absurd (other _ k.ending.number v); others = λ i. (k.place, k.ending.carries, k.answer_is) }

  limits_of : Taken → SixOnlyAtTheLimit l x
  limits_of (stays n place u k e) =
      let same : o.told.done.number ≡ n = ap (λ (y : Out). y.told.done.number) e in
      let tallies : o.told.done.tally.calls.0 ≡ l.tally.calls.0 = ap (λ (y : Out). y.told.done.tally.calls.0) e in
      let never : o.told.done.number ≡ 6 → ⊥ = λ q. other 6 (omega arith, omega arith) (subst AltersNothing (sym same ∙ q) u) in
      record { reached = λ q. absurd (never q); same = λ q. absurd (never q); rises = inl (omega (arith, tallies)) }
  limits_of (asks k) =
      let a = k.number in
      let b = k.rise in
      let m = k.below in
      record { reached = λ q. absurd (omega (arith, a, q)); same = λ q. absurd (omega (arith, a, q)); rises = inr (b, omega (arith, b, m)) }
  limits_of (finishes k) = let a = k.number in record { reached = λ q. absurd (omega (arith, a, q)); same = λ q. absurd (omega (arith, a, q)); rises = inl k.rise }
  limits_of (refuses k) = record {
    reached = λ q. let s = k.ending.six q in let a = s.0 in let b = s.1 in omega (arith, a, b);
    same = λ q. (k.ending.six q).0;
    rises = ⊎_elim (λ e. inl (omega (arith, e))) (λ e. let a = e.0 in let b = e.1 in inr (a, omega (arith, a, b))) k.ending.rise;
  }

  rows_of_lem : Taken → KeptWithin l x
  rows_of_lem (stays n place u k e) = record { few = λ never. absurd (never (subst AltersNothing (sym (ap (λ (y : Out). y.told.done.number) e)) u)) }
  rows_of_lem (asks k) = record { few = λ never. k.rows }
  rows_of_lem (finishes k) = record { few = λ never. k.rows }
  rows_of_lem (refuses k) = record { few = λ never. k.rows }

  -- the answer's first word
  kinds : (a : AnswerWords) {k n : ℕ} → a.kind ≡ k → o.told.answer ≡ answered a l.answer → 1 ≤ length l.answer → get_or o.told.answer 0 0 ≡ n → k ≡ n
  kinds a d e i q = sym d ∙ sym (answer_word a l.answer i) ∙ sym (ap (λ (w : List ℕ). get_or w 0 0) e) ∙ q

  place_kind : (n : ℕ) (place : Place) → (place_words n place).kind ≡ 2
  unfolding place_words
  place_kind n At.Nowhere = refl
  place_kind n (At.Subject i) = refl
  place_kind n (At.Observation i j) = refl

  refusal_kind : (n : ℕ) (place : Place) {k : ℕ} → o.told.answer ≡ answered (place_words n place) l.answer → 1 ≤ length l.answer → get_or o.told.answer 0 0 ≡ k → 2 ≡ k
  refusal_kind n place e i q = kinds (place_words n place) (place_kind n place) e i q

  ends_of : Taken → ZerosAfterAnEnd l x
  ends_of (stays n place u k e) =
      let same : o.told.done.number ≡ n = ap (λ (y : Out). y.told.done.number) e in
      let told = ap (λ (y : Out). y.told.answer) e in
      record {
        refusals = λ i. absurd (other _ i (subst AltersNothing (sym same) u));
        finished = λ i q. absurd (let z = refusal_kind n place told i q in omega (arith, z));
        asked = λ i q. absurd (let z = refusal_kind n place told i q in omega (arith, z));
      }
  ends_of (asks k) = record {
    refusals = λ i. absurd (let a = k.number in let b = i.0 in omega (arith, a, b));
    finished = λ i q. absurd (let z = kinds k.said k.kind k.answer_is i q in omega (arith, z));
    asked = λ i q. k.awaits;
  }
  ends_of (finishes k) = record {
    refusals = λ i. absurd (let a = k.number in let b = i.0 in omega (arith, a, b));
    finished = λ i q. (k.work_is, k.idle);
    asked = λ i q. absurd (let z = kinds k.said k.kind k.answer_is i q in omega (arith, z));
  }
  ends_of (refuses k) = record {
    refusals = λ i. (k.work_is, k.idle);
    finished = λ i q. absurd (let z = refusal_kind o.told.done.number k.place k.answer_is i q in omega (arith, z));
    asked = λ i q. absurd (let z = refusal_kind o.told.done.number k.place k.answer_is i q in omega (arith, z));
  }

-- ---- the requests are never used up: of the numbers nothing is asked
module _ (setup : Setup) (counts : List ℕ) where
  anything : (most c : ℕ) → Tells (λ n. Unit) (λ n place k. Unit) most c
  anything m c = record { known = λ n a b. tt; ended = λ n i a. tt; limit = λ i l. tt; wild = λ i l. tt; mode = λ n i a b. tt; total = tt }

  stands_so : length counts ≤ 4096 → (n : ℕ) (h : Held words) → is_placed setup.effects counts n h.whole.progress ≡ true
      → Going (λ n. Unit) (λ n place k. Unit) setup counts (length h.whole.work) h.whole.tally.calls.0 h.whole.tally.cached_rows.0 (anything _ _) fuel h
  stands_so few n h e =
      let p = placed (λ n. Unit) (λ n a b. tt) setup.effects counts n h.whole.progress e in
      record {
        ahead = record { subject = p.0; left = 6343; search = lifts (λ n. Unit) (λ n a b. tt) (λ n. tt) _ 6343 h.whole.progress p.1; enough = omega (arith, few) };
        work = refl;
        calls = refl;
        rows = omega arith;
      }

  requests : NeverSpent setup counts
  requests = record {
    within = λ few n h e. never_spent _ _ setup counts _ _ _ (anything _ _) few h (stands_so few n h e);
    entered = λ observations x h t e. unspent setup counts h t (subst (Enters setup counts h) e (enters setup counts h observations x));
  }

pub for_all_words : ForAllWords
for_all_words =
    let taken : (l : Lending) (x : Exported) → Taken l x = λ l. ways l.setup l.counts l.observations l.tally l.state l.answer l.cache l.work l.warm l.results in
    record {
      turns = λ l. out_of_turn l.setup l.counts l.observations l.tally l.state l.answer l.cache l.work l.warm l.results;
      refusals = λ l x. refusals_of l x (taken l x);
      limits = λ l x. limits_of l x (taken l x);
      ends = λ l x. ends_of l x (taken l x);
      rows = λ l x. rows_of_lem l x (taken l x);
      requests = requests;
    }
