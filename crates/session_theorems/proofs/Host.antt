-- Demand 3 of what a host sees, `every_host` (specs/Host.antt): the words that it has are the machine's state, from call to call. Assumes nothing.
use Rattle.std.specs.Prelude.{Err, Ok, Result}
use mathlib.Core.Path.{◌≡◌, refl, sym, ap, subst, ◌∙◌}
use mathlib.Core.Bool.{Bool, true, false}
use mathlib.Core.List.{List, [], ◌∷◌, ◌++◌, append_assoc, append-nil}
use mathlib.Core.Logic.{inl, inr}
use Prim.Native.Nat.{ℕ, ◌≤◌, ◌<◌}
use native.Mathlib.Nat.{mod-lt}
use native.Mathlib.Omega.{arith}
use borrow.Author.Tests.{ltb-false}
use lib.Dec.{T, ltb, eqb}
use lib.ListN.{length, get_or, take, drop}
use lib.Ieee.{binary64}
use lib.Ieee.Bits.{of_bits-fits}
use Rattle.float64.specs.Answer.{Answer}
use Rattle.float64.specs.Arithmetic.{word}
use Rattle.float64.specs.Pick.{pick, both, cases, pick_yes}
use Rattle.likelihood.specs.declared.population_focei.Observation.{Observation}
use Rattle.subject.specs.Subject.{additive_sd}
use Rattle.setup.specs.Admission.{checks, count_observations, Admission}
use Rattle.setup.specs.declared.Setup.{Setup}
use Rattle.setup.proofs.Bounds.{shape_low}
use Rattle.search.specs.Subjects as B
use Rattle.search.specs.declared.Progress.{Progress}
use Rattle.search.specs.declared.Step.{Step}
use Rattle.search.specs.declared.Step.TheVariants as Answers
use Rattle.search.specs.declared.Tally.{Tally}
use Rattle.machine.specs.Machine.{Moved, on, halt, Ran, Act, calls as acts, sets, set, call, run}
use Rattle.population.specs.Kept.{words}
use Rattle.population.specs.Population.{rows_of}
use Rattle.session.specs.Session as N
use Rattle.session.specs.Session.{Held, Call, objective, reply, failure, all_checked}
use Rattle.session.specs.Calls.{held_of, state_of, Setting, opening, opened_by}
use Rattle.session.specs.declared.State.{State}
use Rattle.state_words.specs.SessionWords.{state_size, loaded_state, saved_state}
use Rattle.state_words.proofs.Back.{FitsState, back}
use Rattle.host_calls.specs.Hosting.{SetupBits, setup_from, ParameterBits, parameters_from, Out, did, told, answered, answer_of, number_of, is_unaltered, opened_to, call_over, setup_over}
use Rattle.host_calls.specs.Hosting.{open_with, with_state, unknown}
use Rattle.host_calls.specs.Hosting as H
use Rattle.host_calls.specs.SubjectReplies.{subject_reply_over}
use Rattle.session_theorems.specs.Inner.{Inner, inner1, inner2, view}
use Rattle.session_theorems.specs.Claim.{Holds3}
use Rattle.session_theorems.specs.Refusals.{AltersNothing, opens, calls, replies, Lending, does, number}
use Rattle.session_theorems.specs.Runs.{Original, original1, original2, AllRuns}
use Rattle.session_theorems.specs.Setup.{Granted}
use Rattle.session_theorems.specs.Shown.{before, Reads, reads1, reads2, Shows}
use Rattle.session_theorems.specs.SubjectReply.{own_of}
use Rattle.session_theorems.specs.Host.{Lends, left, lending, all, own, rewarmed, Deed, asks, answers, answers_own, fails, warms, after, hosted, M, act_of, acts_of, lent, first, reached, Is, Told}
use Rattle.session_theorems.specs.Host.{now, Hosted, EveryHost}
use Rattle.session_theorems.proofs.Accepted.{Accepts, rows_within, accepts}
use Rattle.session_theorems.proofs.Always.{After, after_turn, after_entry, onward_keeps, loop_keeps}
use Rattle.session_theorems.proofs.Endings.{Says}
use Rattle.session_theorems.proofs.Entered.{Judged, counts_judged, Answers_with, Done, done, enters as enters-done}
use Rattle.session_theorems.proofs.Entries.{enters}
use Rattle.session_theorems.proofs.Evaluations.{every_evaluation}
use Rattle.session_theorems.proofs.Fitting.{Fits}
use Rattle.session_theorems.proofs.Formatted.{FitsSd, FitsParameters, Formatted, FitsCall, begins, turns_fit, enters_fit, sets_fit, state_fits}
use Rattle.session_theorems.proofs.Opening.{every_setup}
use Rattle.session_theorems.proofs.Placed.{rows_exact, Going, turns_going, enters_going, sets_going, opens_going}
use Rattle.session_theorems.proofs.Refusals.{unaltered_no, loaded}
use Rattle.session_theorems.proofs.Searches.{Suits, suits1, suits2}
use Rattle.session_theorems.proofs.Session.{sets as sets-standing, opens_standing, some_room, every_session}
use Rattle.session_theorems.proofs.Standing.{Standing}
use Rattle.session_theorems.proofs.Stores.{Trusted, words_trusted}
use Rattle.session_theorems.proofs.SubjectReply.{in_every_session}
use Rattle.session_theorems.proofs.Turns.{turns}
use Rattle.session_theorems.proofs.Runs.{every_run}
use Rattle.session_theorems.proofs.Unwritten.{every_unwritten}
use Rattle.session_theorems.proofs.Written.{every_word}
use Rattle.search.specs.declared.Refusal.{Refusal}
use Rattle.setup.specs.declared.AdmissionError.TheVariants as A

-- two picks by one test
alike : {X Y : Type 0} (P : X → Y → Type 0) (b : Bool) {x x' : X} {y y' : Y} → P x y → P x' y' → P (pick b x x') (pick b y y')
unfolding pick
alike P true p q = p
alike P false p q = q

-- ---- what bits stand for is of the format
additive_fits : (has : Bool) (n : ℕ) → FitsSd (additive_sd has (word n))
unfolding additive_sd
additive_fits has n = both FitsSd has (of_bits-fits binary64 n) tt

record FitsSetup (s : Setup) : Type 0 where
  bound : Fits s.eta_bound
  variance : Fits s.omega00
  additive : FitsSd s.additive_sd
  most : s.max_evaluations < 4294967296

setup_fits : (b : SetupBits) → FitsSetup (setup_from b)
unfolding setup_from
setup_fits b = record {
  bound = of_bits-fits binary64 _;
  variance = of_bits-fits binary64 _;
  additive = additive_fits b.has_additive b.additive;
  most = mod-lt b.max_evaluations
      (omega arith);
}

parameters_fit : (b : ParameterBits) → FitsParameters (parameters_from b)
unfolding parameters_from
parameters_fit b = record { theta = of_bits-fits binary64 _; theta_2 = of_bits-fits binary64 _; variance = of_bits-fits binary64 _; additive = additive_fits b.has_additive b.additive }

-- ---- a call whose number is 1 to 5 or 19 leaves the state as it was
module _ (l : Lending) where
  went_on : (h : Held words) (a : Step) (t : Held words) → Answers_with l.setup l.counts h a t → is_unaltered (number_of a) ≡ false
  unfolding Says number_of is_unaltered
  went_on h (Answers.Asked eta v) t g = pick_yes _ _ _ refl
  went_on h (Answers.Finished ofv) t g = pick_yes _ _ _ refl
  went_on h (Answers.Refused why) t g = unaltered_no why.number g.says.1.number

  same_state : (c : Call) (h : Held words) → is_unaltered (number_of (call (M l) c h).answer) ≡ true → (call (M l) c h).state ≡ h
  unfolding call
  same_state c h u = by (call (M l) c h).answer (call (M l) c h).state (done l.setup l.counts h _ (enters-done l.setup l.counts h l.observations c)) u
    where
      by : (b : Step) (t : Held words) → Done l.setup l.counts h b t → is_unaltered (number_of b) ≡ true → t ≡ h
      by b t (inl k) e = k.same
      by b t (inr g) e = absurd (subst T (sym e ∙ went_on h b t g) tt)

  -- ---- what a call gives back and writes is what the machine did
  over_is : (c : Call) (m : Lends) (h : Held words) → Is m h → does (all l m) (calls c) ≡ did (call (M l) c h) m.state m.answer
  unfolding call_over with_state
  over_is c m h i =
      ap (λ (a : Answer State). with_state (λ s. did (call (M l) c (held_of s m.tally m.cache m.work m.warm m.results)) m.state m.answer)
      (unknown m.tally m.state m.answer m.cache m.work m.warm m.results) a) i.loads
      ∙ ap (λ (x : Held words). did (call (M l) c x) m.state m.answer) i.held

  did_is : (z : Ran (Held words) Step) (m : Lends) (h : Held words) → Is m h → FitsState (state_of z.state) → (is_unaltered (number_of z.answer) ≡ true → z.state ≡ h) → Is
      (left (did z m.state m.answer)) z.state
  unfolding left told
  did_is z m h i f same =
      let again : Held words → Held words = λ (x : Held words). held_of i.state x.whole.tally x.whole.kept.words x.whole.work x.whole.warm x.whole.results in
      cases (λ (v : List ℕ). Is (record {
        tally = z.state.whole.tally;
        state = v;
        answer = answered (answer_of z.answer) m.answer;
        cache = z.state.whole.kept.words;
        work = z.state.whole.work;
        warm = z.state.whole.warm;
        results = z.state.whole.results;
      }) z.state)
      (is_unaltered (number_of z.answer))
      (λ t. record { state = i.state; loads = i.loads; held = ap again (same t ∙ sym i.held) ∙ i.held ∙ sym (same t) })
      (λ t. record { state = state_of z.state; loads = back (state_of z.state) m.state (loaded m.state i.state i.loads).long f; held = refl })

  call_is : (c : Call) (m : Lends) (h : Held words) → Is m h → FitsState (state_of (call (M l) c h).state) → Is (left (does (all l m) (calls c))) (call (M l) c h).state
  call_is c m h i f = subst (λ (o : Out). Is (left o) (call (M l) c h).state) (sym (over_is c m h i)) (did_is (call (M l) c h) m h i f (same_state c h))

  over_tells : (c : Call) (m : Lends) (h : Held words) → Is m h → Told (does (all l m) (calls c)) m (call (M l) c h).answer
  unfolding told
  over_tells c m h i = let e = over_is c m h i in (ap (λ (o : Out). o.told.done.number) e, ap (λ (o : Out). o.told.answer) e)

-- ---- a run with one act more
module _ (l : Lending) where
  run_call : (s : Held words) (xs : List (Act (M l))) (c : Call) → run (M l) s (xs ++ (acts c ∷ [])) ≡ (call (M l) c (run (M l) s xs)).state
  unfolding run
  run_call s [] c = refl
  run_call s (acts d ∷ xs) c = run_call (call (M l) d s).state xs c
  run_call s (sets w ∷ xs) c = run_call (set (M l) w s) xs c

  run_set : (s : Held words) (xs : List (Act (M l))) (v : List ℕ) → run (M l) s (xs ++ (sets v ∷ [])) ≡ set (M l) v (run (M l) s xs)
  unfolding run
  run_set s [] v = refl
  run_set s (acts d ∷ xs) v = run_set (call (M l) d s).state xs v
  run_set s (sets w ∷ xs) v = run_set (set (M l) w s) xs v

-- ---- the session, where setup let it in
granted : (l : Lending) → FitsSetup l.setup → N.opens words l.setup l.counts l.observations (lent l) ≡ Ok tt
    → Granted l.setup l.counts l.observations (lent l) l.results
granted l f passes = record { bound = f.bound; limit = f.most; many = refl; long = refl; passes = passes }

module _ (l : Lending) (I : Inner) (Q : Suits I l.setup.effects) (f : FitsSetup l.setup) (passes : N.opens words l.setup l.counts l.observations (lent l) ≡ Ok tt) where
  abbrev a : Accepts l.setup l.counts (lent l)
  a = accepts l.setup l.counts (lent l) (all_checked l.setup l.counts l.observations) passes

  abbrev U : Trusted words l.setup.k
  U = words_trusted l.setup.k (some_room l.setup a.shape_in) (shape_low {b = false} l.setup (sym a.shape_in) refl)

  abbrev Stands : Held words → Type 0
  Stands = Standing words l.setup l.counts l.observations I Q U

  abbrev Goes : Held words → Type 0
  Goes = Going l.setup l.counts l.observations (lent l) a

  -- what holds wherever such a session stands
  record Sound (h : Held words) : Type 0 where
    stands : Stands h
    goes : Goes h
    fits : Formatted h

  three : (x : Moved (Held words) Step) → After Stands x → After Goes x → After Formatted x → After Sound x
  unfolding After
  three (on t) p q r = record { stands = p; goes = q; fits = r }
  three (halt b t) p q r = record { stands = p; goes = q; fits = r }

  turns_sound : (h : Held words) → Sound h → After Sound (N.turn_held words l.setup l.counts h)
  turns_sound h s =
      three _ (after_turn I.rules I.claims (M l) (view words l.setup l.counts l.observations I) Stands h
      (turns words l.setup l.counts l.observations I Q U f.bound a.most h s.stands))
      (turns_going l.setup l.counts l.observations (lent l) a h s.goes) (turns_fit l.setup l.counts l.observations I Q U f.bound h s.stands s.fits)

  abbrev Fit_for : (h : Held words) → Sound h → Call → Type 0
  Fit_for h s c = FitsCall l.setup l.counts l.observations I Q U f.bound h s.stands s.fits c

  enters_sound : (h : Held words) (s : Sound h) (c : Call) → Fit_for h s c → After Sound (N.enter words l.setup l.counts l.observations c h)
  enters_sound h s c k =
      three _ (after_entry I.rules I.claims (M l) (view words l.setup l.counts l.observations I) Stands c h s.stands
      (enters words l.setup l.counts l.observations I Q U f.bound (let m = f.most in omega (arith, m)) a.some (rows_within a) c h s.stands))
      (enters_going l.setup l.counts l.observations (lent l) a h s.goes c) (enters_fit l.setup l.counts l.observations I Q U f.bound h s.stands s.fits c k)

  call_sound : (c : Call) (h : Held words) (s : Sound h) → Fit_for h s c → Sound (call (M l) c h).state
  unfolding call
  call_sound c h s k = onward_keeps Sound _ _ (enters_sound h s c k) (loop_keeps Sound _ _ turns_sound _)

  set_sound : (v : List ℕ) (h : Held words) → Sound h → Sound (set (M l) v h)
  unfolding set
  set_sound v h s = both Sound _ s (record {
    stands = sets-standing words l.setup l.counts l.observations I Q U f.bound f.most (lent l) l.results a v h s.stands;
    goes = sets_going l.setup l.counts l.observations (lent l) a h s.goes v;
    fits = sets_fit l.setup l.counts h s.fits v;
  })

  first_sound : Sound (first l)
  unfolding B.begin_subject
  first_sound =
      let z = of_bits-fits binary64 0 in
      record {
        stands = opens_standing words l.setup l.counts l.observations I Q U f.bound f.most (lent l) l.results a;
        goes = opens_going l.setup l.counts l.observations (lent l) a l.results refl;
        fits = record { parameters = record { theta = z; theta_2 = z; variance = f.variance; additive = f.additive }; progress = begins _ 0 0 _ _ _ z z };
      }

  words_tell : (h : Held words) → Sound h → FitsState (state_of h)
  words_tell h s = state_fits l.setup l.counts l.observations (lent l) a h s.goes (let w = s.stands.warm_fits in record { first = w.first; second = w.second }) s.fits

  -- ---- one deed more
  record Stood (m : Lends) (xs : List (Act (M l))) : Type 0 where
    is : Is m (run (M l) (first l) xs)
    sound : Sound (run (M l) (first l) xs)

  module _ (m : Lends) (xs : List (Act (M l))) (d : Stood m xs) where
    abbrev h : Held words
    h = run (M l) (first l) xs

    calls_on : (c : Call) → Fit_for h d.sound c → Stood (left (does (all l m) (calls c))) (xs ++ (acts c ∷ []))
    calls_on c k =
        let e = sym (run_call l (first l) xs c) in
        let g = call_sound c h d.sound k in
        record { is = subst (Is (left (does (all l m) (calls c)))) e (call_is l c m h d.is (words_tell _ g)); sound = subst Sound e g }

    -- the state's words name the awaited subject, whose observations are its own
    own_are : take (get_or l.counts (get_or m.state 8 0) 0) (drop (before l.counts (get_or m.state 8 0)) l.observations) ≡ own_of l.counts l.observations d.is.state
    own_are =
        let s = d.is.state in
        let n = (loaded m.state s d.is.loads).subject in
        let p : s.progress ≡ h.whole.progress = ap (λ (x : Held words). x.whole.progress) d.is.held in
        let i : get_or m.state 8 0 ≡ h.whole.progress.subject = sym n ∙ ap (λ (q : Progress). q.subject) p in
        let r = rows_exact a h.whole.progress.subject d.sound.stands.subject in
        let b = d.sound.goes.place.first in
        ap (λ (k : ℕ). take (get_or l.counts k 0) (drop (before l.counts k) l.observations)) i
        ∙ ap (λ (k : ℕ). take k (drop (before l.counts h.whole.progress.subject) l.observations)) (sym r)
        ∙ ap (λ (k : ℕ). take (rows_of l.counts h.whole.progress.subject) (drop k l.observations)) (sym b)
        ∙ ap (λ (q : Progress). take (rows_of l.counts q.subject) (drop q.first l.observations)) (sym p)

    own_is : (said : List ℕ) → does (own l m) (replies said) ≡ does (all l m) (calls (reply said))
    own_is said =
        ap (λ (os : List Observation). subject_reply_over l.setup l.counts os m.tally m.state m.answer m.cache m.work m.warm m.results said) own_are
        ∙ in_every_session l.setup l.counts l.observations (lent l) l.results (granted l f passes) xs m.tally m.state m.answer m.cache m.work
        m.warm m.results said
        d.is.state d.is.loads d.is.held

    warms_is : (v : List ℕ) → Is (after l m (warms v)) (set (M l) v h)
    unfolding after set N.set_warm
    warms_is v =
        let i = d.is in
        let s = i.state in
        let x = held_of s m.tally m.cache m.work m.warm m.results in
        let same : Is m x = record { state = s; loads = i.loads; held = refl } in
        subst (λ (y : Held words). Is (pick (eqb (get_or m.state 0 0) 1) m (pick (eqb (length v) (length m.warm)) (rewarmed m v) m))
        (pick y.whole.progress.awaits y (N.set_warm words l.setup l.counts v y))) i.held
        (subst (λ (t : Bool). Is (pick t m (pick (eqb (length v) (length m.warm)) (rewarmed m v) m)) (pick s.progress.awaits x (N.set_warm words l.setup l.counts v x)))
        (loaded m.state s i.loads).awaits
        (alike Is s.progress.awaits same (alike Is (eqb (length v) (length m.warm)) (record { state = s; loads = i.loads; held = refl }) same)))

    sets_on : (v : List ℕ) → Stood (after l m (warms v)) (xs ++ (sets v ∷ []))
    sets_on v =
        let e = sym (run_set l (first l) xs v) in
        record { is = subst (Is (after l m (warms v))) e (warms_is v); sound = subst Sound e (set_sound v h d.sound) }

    deed_on : (x : Deed) → Stood (after l m x) (xs ++ (act_of l x ∷ []))
    unfolding after act_of FitsCall
    deed_on (asks p) = calls_on (objective (parameters_from p)) (parameters_fit p)
    deed_on (answers said) = calls_on (reply said) tt
    deed_on (answers_own said) = subst (λ (o : Out). Stood (left o) (xs ++ (acts (reply said) ∷ []))) (sym (own_is said)) (calls_on (reply said) tt)
    deed_on fails = calls_on failure tt
    deed_on (warms v) = sets_on v

  deeds_on : (ds : List Deed) (m : Lends) (xs : List (Act (M l))) → Stood m xs → Stood (hosted l m ds) (xs ++ acts_of l ds)
  unfolding hosted acts_of
  deeds_on [] m xs d = subst (Stood m) (sym (append-nil xs)) d
  deeds_on (x ∷ ds) m xs d = subst (Stood (hosted l (after l m x) ds)) (append_assoc xs (act_of l x ∷ []) (acts_of l ds)) (deeds_on ds _ _ (deed_on m xs d x))

-- ---- setup: its number is 0 only where it opened a session
module _ (l : Lending) (f : FitsSetup l.setup) (e : number l opens ≡ 0) where
  abbrev setting : Setting
  setting = opened_by l.setup l.counts (length l.observations) (all_checked l.setup l.counts l.observations) l.tally l.cache l.work l.warm l.results

  abbrev next : State
  next = state_of (first l)

  abbrev settled_out : Out
  settled_out = H.settled l.setup l.counts (length l.observations) (all_checked l.setup l.counts l.observations) l.tally l.state l.answer l.cache l.work
      l.warm l.results setting

  record Settled (o : Out) : Type 0 where
    long : state_size ≤ length l.state
    same : o ≡ settled_out

  settled_by : Settled (does l opens)
  unfolding setup_over open_with
  settled_by = cases (λ (o : Out). o.told.done.number ≡ 0 → Settled o) (ltb (length l.state) state_size) (λ t q. absurd (omega (arith, q)))
      (λ t q. record { long = ltb-false _ _ t; same = refl }) e

  opened_by_lem : (adm : Admission) → Judged (length l.counts) adm → (H.opened (opening l.setup l.counts (lent l) l.tally l.cache l.work l.warm l.results adm).begun
      l.state l.answer).done.number ≡ 0
      → (opening l.setup l.counts (lent l) l.tally l.cache l.work l.warm l.results adm).begun.opening ≡ Ok next
  unfolding Judged opening H.opened opened_to
  opened_by_lem (Ok tt) n q = refl
  opened_by_lem (Err (A.Refused k)) n q = absurd (nothing_at_0 n.0 q)
    where
      nothing_at_0 : AltersNothing k → k ≡ 0 → ⊥
      nothing_at_0 (inl r) z = let low = r.0 in omega (arith, low, z)
      nothing_at_0 (inr r) z = omega (arith, r, z)
  opened_by_lem (Err (A.Unsound place)) n q = absurd (omega (arith, q))

  is_opened_lem : setting.begun.opening ≡ Ok next
  unfolding opened_by checks
  is_opened_lem = opened_by_lem _ (counts_judged l.setup (length l.counts) (lent l) (all_checked l.setup l.counts l.observations) (count_observations l.counts))
      (ap (λ (o : Out). o.told.done.number) (sym settled_by.same) ∙ e)

  abbrev passes : N.opens words l.setup l.counts l.observations (lent l) ≡ Ok tt
  passes = (every_setup l.setup l.counts l.observations l.tally l.cache l.work l.warm l.results next is_opened_lem).passes

  first_state_lem : settled_out.told.state ≡ saved_state next l.state
  unfolding H.opened opened_to
  first_state_lem = ap (λ (o : Result State Refusal). (opened_to setting.begun.tally l.state l.answer o).state) is_opened_lem

  first_tally : settled_out.told.done.tally ≡ setting.begun.tally
  unfolding H.opened opened_to
  first_tally = ap (λ (o : Result State Refusal). (opened_to setting.begun.tally l.state l.answer o).done.tally) is_opened_lem

  module _ (I : Inner) (Q : Suits I l.setup.effects) where
    first_is : Is (left settled_out) (first l)
    unfolding left
    first_is = record {
      state = next;
      loads = ap loaded_state first_state_lem ∙ back next l.state settled_by.long (words_tell l I Q f passes _ (first_sound l I Q f passes));
      held = ap (λ (t : Tally). held_of next t setting.cache setting.work setting.warm l.results) first_tally
          ∙ (every_setup l.setup l.counts l.observations l.tally l.cache l.work l.warm l.results next is_opened_lem).begins;
    }

    stood : (ds : List Deed) → Stood l I Q f passes (hosted l (left (does l opens)) ds) (acts_of l ds)
    unfolding run
    stood ds = subst (λ (o : Out). Stood l I Q f passes (hosted l (left o) ds) (acts_of l ds)) (sym settled_by.same)
        (deeds_on l I Q f passes ds _ [] (record { is = first_is; sound = first_sound l I Q f passes }))

    is_hosted : (L : Reads I) (O : Original I.rules) → Holds3 words l.setup l.counts l.observations I → AllRuns l.setup l.counts l.observations I O
        → Shows l.setup l.counts l.observations I L → (ds : List Deed) → Hosted I L O l ds
    is_hosted L O holds all_runs words-show ds =
        let d = stood ds in
        record {
          is = d.is;
          demand3 = holds f.bound f.most (lent l) l.results passes (acts_of l ds);
          runs = all_runs (lent l) l.results (granted l f passes) (acts_of l ds);
          shows = λ o. words-show (lent l) l.results (granted l f passes) o (acts_of l ds);
          evaluates = (every_evaluation l.setup l.counts l.observations (lent l) l.results (granted l f passes)).1 (acts_of l ds);
          unwritten = every_unwritten l.setup l.counts l.observations (lent l) l.results (granted l f passes) (acts_of l ds);
          tells = λ c. over_tells l c _ _ d.is;
          tells_own = λ said. subst (λ (o : Out). Told o (now I L O l ds) (call (M l) (reply said) (reached l ds)).answer) (sym (own_is l I Q f passes _ _ d said))
              (over_tells l (reply said) _ _ d.is);
        }

pub every_host : EveryHost
every_host setup counts observations memory e ds =
    let l = lending (setup_from setup) counts observations memory in
    let f = setup_fits setup in (
      λ one. is_hosted l f e inner1 (subst (Suits inner1) (sym one) suits1) reads1 original1 ((every_session l.setup counts observations).0 one)
          ((every_run l.setup counts observations).0 one) ((every_word l.setup counts observations).0 one) ds,
      λ two. is_hosted l f e inner2 (subst (Suits inner2) (sym two) suits2) reads2 original2 ((every_session l.setup counts observations).1 two)
          ((every_run l.setup counts observations).1 two) ((every_word l.setup counts observations).1 two) ds,
    )
