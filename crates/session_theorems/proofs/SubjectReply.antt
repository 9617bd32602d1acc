-- A reply that lends one subject's observations is the reply that lends all of them: the proof of specs/SubjectReply. Assumes nothing.
use Rattle.std.specs.Prelude.{Err, Ok}
use mathlib.Core.Path.{◌≡◌, refl, sym, ap, subst, ◌∙◌}
use mathlib.Core.Bool.{Bool, true}
use mathlib.Core.List.{List}
use Prim.Native.Nat.{ℕ, ◌+◌, ◌-◌, ◌≤◌, ◌<◌}
use native.Mathlib.Omega.{arith}
use borrow.Author.Tests.{le-ltb, ltb-true, ltb-false}
use lib.Dec.{ltb}
use lib.ListN.{get_or, length, take, drop, length-drop}
use lib.Seq.{take_all, length-take-le}
use Rattle.float64.specs.Answer.{Answer, given}
use Rattle.float64.specs.Pick.{pick, yes, no, cases, pick_yes}
use Rattle.likelihood.specs.declared.population_focei.Observation.{Observation}
use Rattle.words.specs.Words.{smaller}
use Rattle.subject.specs.Subject.{Evaluating, evaluating, begin, add_observations}
use Rattle.subject.specs.declared.Trial.{Trial}
use Rattle.work.specs.Work.{most_rows}
use Rattle.setup.specs.Admission.{checks, with_parameters, Admission}
use Rattle.setup.specs.declared.Setup.{Setup}
use Rattle.setup.specs.declared.Lent.{Lent}
use Rattle.setup.proofs.Bounds.{not_first}
use Rattle.setup.specs.SubjectChecks.{subject_checks}
use Rattle.search.specs.declared.Fit.{Fit}
use Rattle.search.specs.declared.Progress.{Progress}
use Rattle.search.specs.declared.Tally.{Tally}
use Rattle.search.specs.Subjects.{fit_of, wanted_by}
use Rattle.population.specs.Kept.{words, order_rows}
use Rattle.population.specs.Population.{rows_of}
use Rattle.session.specs.Calls.{lent_by, stands, awaited_point, awaited_for, trial_by, admit_awaited, admitted_over, admit_reply}
use Rattle.session.specs.Session.{Held, all_checked, is_placed, is_standing, standing, admitted, reply}
use Rattle.session.specs.declared.Admitted.{Admitted}
use Rattle.session.specs.declared.Awaited.{Awaited}
use Rattle.session.specs.declared.State.{State}
use Rattle.state_words.specs.SessionWords.{loaded_state}
use Rattle.session.specs.SubjectReply.{subject_awaited, admit_subject_reply}
use Rattle.host_calls.specs.Hosting.{Out, admit_with, finish_with, call_over}
use Rattle.host_calls.proofs.Whole.{reply_over}
use Rattle.host_calls.specs.SubjectReplies.{subject_first, subject_checked, admit_subject_with, subject_reply_over}
use Rattle.session_theorems.specs.SubjectReply.{own_of, EverySubjectReply, InEverySession}
use Rattle.session_theorems.proofs.Accepted.{is_cohort_lem}
use Rattle.session_theorems.proofs.Evaluated.{work_length}
use Rattle.session_theorems.proofs.LetIn.{let_in}
use Rattle.session_theorems.proofs.Plain.{false_not_true, only_first}
use Rattle.session_theorems.proofs.SubjectChecks.{IsSound, part_sound, Passed, passed, count_in, subject_passes}
use Rattle.setup.specs.declared.AdmissionError.TheVariants as A
use Rattle.mode.specs.declared.Request.{Request}
use Rattle.matrix.specs.declared.Pair.{Pair}
use Rattle.mode.specs.declared.Request.TheVariants as Wants

-- where the answer is not that of a test that fails, the test held
-- ---- 19: the positions are right among all observations, and so among the most that there can be
module _ (setup : Setup) (counts : List ℕ) (n : ℕ) (tally : Tally) (rows : ℕ) (p : Progress) (e : is_standing setup counts n tally rows p ≡ true) where
  pub placed : (p.subject < length counts) × (p.first + rows_of counts p.subject ≤ n)
  unfolding is_standing is_placed
  placed =
      let kept = not_first _ _ false_not_true e in
      let few = not_first _ _ false_not_true kept.1 in
      let inside = only_first _ _ few.1 in
      (ltb-true _ _ inside.0, ltb-false _ _ (not_first _ _ false_not_true inside.1).0)

  stands_for_most : n ≤ most_rows → is_standing setup counts most_rows tally rows p ≡ true
  unfolding is_standing is_placed
  stands_for_most h =
      let kept = not_first _ _ false_not_true e in
      let few = not_first _ _ false_not_true kept.1 in
      let inside = only_first _ _ few.1 in
      let among = not_first _ _ false_not_true inside.1 in
      let m : p.first + rows_of counts p.subject ≤ n = ltb-false _ _ among.0 in
      let low : p.first + rows_of counts p.subject ≤ most_rows = omega (arith, m, h) in
      sym (no _ kept.0 (no _ few.0 (yes _ inside.0 (no _ (le-ltb _ _ low) (sym among.1)))))

-- the point that is awaited is the same
same_point : (setup : Setup) (counts : List ℕ) (n m : ℕ) (fit : Fit) (s : State) (tally : Tally) → stands setup counts n s tally ≡ true → stands setup counts m s tally ≡ true →
    awaited_point setup counts n fit s tally ≡ awaited_point setup counts m fit s tally
unfolding awaited_point
same_point setup counts n m fit s tally a b =
    let wanted = wanted_by fit s.progress in
    let at : (b : Bool) → b ≡ true → pick b wanted (Wants.Refused 19) ≡ wanted = λ b t. pick_yes b wanted (Wants.Refused 19) t in
    ap (λ (w : Request Pair). pick s.progress.awaits w (Wants.Refused 19)) (at _ a ∙ sym (at _ b))

-- ---- the whole of it
module _ (setup : Setup) (counts : List ℕ) (observations : List Observation) (tally : Tally) (state answer cache work warm results : List ℕ) (said : List ℕ) (s : State)
    (placing : stands setup counts (length observations) s tally ≡ true)
    (accepted : checks (with_parameters setup s.parameters) counts (lent_by (length observations) (length cache) (length work) (length warm) (length results)) (all_checked setup counts observations) ≡
    Ok tt) where
  abbrev own : List Observation
  own = own_of counts observations s

  abbrev lent : ℕ → Lent
  lent n = lent_by n (length cache) (length work) (length warm) (length results)

  abbrev set : Setup
  set = with_parameters setup s.parameters

  abbrev subject : ℕ
  subject = s.progress.subject

  abbrev rows : ℕ
  rows = rows_of counts subject

  abbrev all : Passed set counts (lent (length observations)) (lent (length own)) (all_checked setup counts observations)
  all = passed set counts (lent (length observations)) (lent (length own)) (all_checked setup counts observations) accepted

  abbrev inside : (subject < length counts) × (s.progress.first + rows ≤ length observations)
  inside = placed setup counts (length observations) tally (order_rows s.order) s.progress placing

  -- the subject's rows are its count, and as many observations are lent
  rows_are : rows ≡ get_or counts subject 0
  unfolding rows_of
  rows_are =
      let n = count_in set counts (lent (length observations)) (lent (length own)) (all_checked setup counts observations) all subject inside.0 in
      cases (λ (m : ℕ). m ≡ get_or counts subject 0) (ltb (get_or counts subject 0) most_rows) (λ t. refl) (λ f. let l : most_rows ≤ get_or counts subject 0 = ltb-false _ _ f in omega (arith, l, n.1, n.2))

  own_length : length own ≡ rows
  own_length = length-take-le rows (drop s.progress.first observations) (let d = length-drop s.progress.first observations in omega (arith, d, inside.1))

  total_is : all.total ≡ length observations
  total_is = (is_cohort_lem set.effects (length counts) all.total (length observations) all.cohort).adds

  own_sound : IsSound (subject_checked setup counts own state)
  unfolding subject_first
  own_sound = part_sound setup.width counts observations _ all.sound.at _ rows s.progress.first all.sound.is

  own_accepted : Ok tt ≡ subject_checks set counts subject (lent (length own)) (subject_checked setup counts own state)
  own_accepted =
      subject_passes set counts (lent (length observations)) (lent (length own)) (all_checked setup counts observations) all subject inside.0 (subject_checked setup counts own state)
      own_sound (omega (arith, rows_are, inside.1, total_is)) (sym rows_are ∙ sym own_length) refl refl refl refl

  -- so the same is awaited
  same_awaited : subject_awaited setup counts (lent (length own)) (subject_checked setup counts own state) s tally ≡ admit_awaited setup counts (lent (length observations))
      (all_checked setup counts observations) s tally
  unfolding subject_awaited admit_awaited
  same_awaited =
      let most : length observations ≤ most_rows = let n = count_in set counts (lent (length observations)) (lent (length own)) (all_checked setup counts observations) all subject inside.0 in omega
      (arith, n.3, total_is) in
      (λ i. awaited_for (fit_of setup s.parameters) ((sym own_accepted ∙ sym accepted) i) (same_point setup counts most_rows (length observations) (fit_of setup s.parameters) s tally
      (stands_for_most setup counts (length observations) tally (order_rows s.order) s.progress placing most) placing i))

  abbrev trial : Trial
  trial = trial_by setup s rows

  -- what a reply that is let in, or not, comes to
  abbrev evaluates : List Observation → Admitted → Evaluating
  evaluates os a = add_observations a.trial said (take (a.to - a.from) (drop a.from os)) (evaluating a.evaluation work)

  abbrev finishes : List Observation → Admitted → Out
  finishes os a = let e = evaluates os a in finish_with counts a.awaited e.evaluation tally state answer cache e.work warm results

  -- the observations that are added, with the subject's lent and with all
  of_own : take (length own - 0) (drop 0 own) ≡ own
  of_own = take_all (length own - 0) own (omega arith)

  of_all : take (smaller (s.progress.first + rows) (length observations) - s.progress.first) (drop s.progress.first observations) ≡ own
  of_all =
      let n : smaller (s.progress.first + rows) (length observations) - s.progress.first ≡ rows = omega (arith, inside.1) in
      ap (λ (m : ℕ). take m (drop s.progress.first observations)) n

  same_end : (w : Awaited) (v : Admission) → finishes own (admitted_over setup trial said w 0 (length own) v) ≡ finishes observations
      (admitted_over setup trial said w s.progress.first (smaller (s.progress.first + rows) (length observations)) v)
  unfolding admitted_over
  same_end w (Ok tt) =
      let after : List Observation → Evaluating = λ os. add_observations trial said os (evaluating (begin said setup.width setup.effects setup.output_budget) work) in
      ap (λ (os : List Observation). finish_with counts w (after os).evaluation tally state answer cache (after os).work warm results) (of_own ∙ sym of_all)
  same_end w (Err (A.Refused number)) = refl
  same_end w (Err (A.Unsound at)) = refl

  -- with all observations lent it is the call of the session
  long : (w : Awaited) (v : Admission) → length (evaluates observations (admitted_over setup trial said w s.progress.first (smaller (s.progress.first + rows) (length observations)) v)).work ≡
      length work
  unfolding admitted_over
  long w (Ok tt) = work_length trial said setup.width setup.effects setup.output_budget (take (smaller (s.progress.first + rows) (length observations) - s.progress.first)
      (drop s.progress.first observations)) work
  long w (Err (A.Refused number)) = refl
  long w (Err (A.Unsound at)) = refl

  module _ (loads : loaded_state state ≡ given s) where
    abbrev whole : Admitted
    whole = admit_reply setup counts (lent (length observations)) (all_checked setup counts observations) s tally said

    pub subject_reply : subject_reply_over setup counts own tally state answer cache work warm results said ≡ call_over setup counts observations tally state answer cache work warm results (reply said)
    unfolding subject_reply_over admit_subject_with admit_subject_reply admit_with admit_reply
    subject_reply =
        let w = admit_awaited setup counts (lent (length observations)) (all_checked setup counts observations) s tally in
        let loaded = ap (λ (l : Answer State). finishes own (admit_subject_with setup counts (lent (length own)) (subject_checked setup counts own state) tally said l)) loads in
        let at = ap (λ (v : Awaited). finishes own (admitted_over setup trial said v 0 (length own) v.admission)) same_awaited in
        let e = evaluates observations whole in
        loaded ∙ at ∙ same_end w w.admission
        ∙ reply_over setup counts observations tally state answer cache work warm results said e.evaluation e.work
        (long w w.admission) (all_checked setup counts observations) refl refl
        (ap (admit_with setup counts (lent (length observations)) (all_checked setup counts observations) tally said) (sym loads)) refl refl

pub every_subject_reply : EverySubjectReply
every_subject_reply setup counts observations tally state answer cache work warm results said s loads placing accepted = subject_reply setup counts observations tally state answer cache work warm
    results said s placing accepted loads

-- wherever a session stands, the positions are right and 1 to 5 pass
pub in_every_session : InEverySession
unfolding admitted
in_every_session setup counts observations lent before granted acts tally state answer cache work warm results said s loads here =
    let here-stands = let_in setup counts observations lent before granted acts in
    every_subject_reply setup counts observations tally state answer cache work warm results said s loads
    (subst (λ (h : Held words). standing words setup counts (length observations) h.whole ≡ true) (sym here) here-stands.placed)
    (subst (λ (h : Held words). admitted words setup counts (length observations) (all_checked setup counts observations) h.parameters h.whole ≡ Ok tt) (sym here) here-stands.accepted)
