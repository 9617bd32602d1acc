-- A call writes the words of the subjects whose mode it reaches, and no other. Assumes nothing.
use Rattle.std.specs.Prelude.{Err, None, Ok, Option, Some}
use mathlib.Core.Path.{◌≡◌, refl, sym, ap, subst, ◌∙◌}
use mathlib.Core.Bool.{false}
use mathlib.Core.List.{List}
use mathlib.Core.Logic.{◌⊎◌, inl, inr, ⊎_elim}
use Prim.Native.Nat.{ℕ, zero, suc, ◌+◌, ◌*◌, ◌≤◌, ◌<◌}
use native.Mathlib.Omega.{arith}
use native.Mathlib.Nat.{mod-eq_of_lt}
use lib.Dec.{eqb}
use lib.ListN.{get_or, length}
use lib.Seq.{get_or-set_other}
use lib.Ieee.{Float, binary64, to_bits}
use Rattle.float64.specs.Answer.{Answer, given, refused}
use Rattle.float64.specs.Pick.{pick, both}
use Rattle.matrix.specs.declared.Pair.{Pair}
use Rattle.likelihood.specs.declared.population_focei.Observation.{Observation}
use Rattle.cache.specs.Claim.{Room}
use Rattle.work.specs.Work.{is_same_grid, result_written, fitted_written}
use Rattle.setup.specs.declared.Setup.{Setup}
use Rattle.setup.specs.declared.Lent.{Lent}
use Rattle.setup.specs.declared.Parameters.{Parameters}
use Rattle.setup.proofs.Bounds.{shape_low}
use Rattle.search.specs.Subjects as B
use Rattle.search.specs.declared.Fit.{Fit}
use Rattle.search.specs.declared.Halted.{Halted}
use Rattle.search.specs.declared.Mode.{Mode}
use Rattle.search.specs.declared.Place.{Place}
use Rattle.search.specs.declared.Place.TheVariants as At
use Rattle.search.specs.declared.Progress.{Progress}
use Rattle.search.specs.declared.Step.{Step}
use Rattle.search.specs.declared.Step.TheVariants as Answers
use Rattle.search.specs.declared.Tally.{Tally}
use Rattle.search.proofs.Fits.{fit_effects}
use Rattle.machine.specs.Machine.{Moved, on, halt, Ran, onward, loop, call, run}
use Rattle.population.specs.Kept.{Recalled, words}
use Rattle.population.specs.Population.{rows_of, warm_stored, raised, Worked, answered, at_point, next_subject, Ended, closing, at_mode, served_by, served, turned, Whole, whole_of, moved, turn, spent, take, Turned}
use Rattle.session.specs.Session as N
use Rattle.session.specs.Session.{Held, held, Call, objective, reply, failure}
use Rattle.session_theorems.specs.Inner.{Inner, inner1, inner2}
use Rattle.session_theorems.specs.Shown.{before}
use Rattle.session_theorems.specs.Unwritten.{Stays, StaysAt, StaysBeyond, StaysBy, Unwritten, EveryUnwritten}
use Rattle.session_theorems.proofs.Accepted.{Accepts, rows_within, accepts}
use Rattle.session_theorems.proofs.Always.{After}
use Rattle.session_theorems.proofs.LetIn.{both_hold}
use Rattle.session_theorems.proofs.Plain.{split}
use Rattle.session_theorems.proofs.Placed.{before_later, all_before, rows_exact, Going, turns_going, enters_going}
use Rattle.session_theorems.proofs.Results.{past_two, result_kept, result_past}
use Rattle.session_theorems.proofs.Searches.{Suits, suits1, suits2}
use Rattle.session_theorems.proofs.Session.{some_room}
use Rattle.session_theorems.proofs.Standing.{advanced_alike}
use Rattle.std.specs.declared.ops.ControlFlow.TheVariants.{Break, Continue}
use Rattle.subject.specs.declared.EvaluationError.TheVariants as E
use Rattle.setup.specs.declared.AdmissionError.TheVariants as A
use Rattle.subject.specs.Subject.{Evaluation}
use Rattle.setup.specs.Admission.{Admission}
use Rattle.mode.specs.declared.Request.{Request}
use Rattle.mode.specs.declared.Request.TheVariants as Wants

-- ---- the warm start of subject j is stored, and those of the later ones stay
warm_past : (effects j : ℕ) (eta : Pair) (warm : List ℕ) (x : ℕ) → (effects ≡ 1) ⊎ (effects ≡ 2) → effects * suc j ≤ x → get_or (warm_stored effects j eta warm) x 0 ≡ get_or warm x 0
unfolding warm_stored pick
warm_past effects j eta warm x (inl e) =
    subst (λ (n : ℕ). n * suc j ≤ x → get_or (warm_stored n j eta warm) x 0 ≡ get_or warm x 0) (sym e) (λ l. get_or-set_other warm j x (to_bits binary64 eta.first) 0 (λ q. omega (arith, q, l)))
warm_past effects j eta warm x (inr e) =
    subst (λ (n : ℕ). n * suc j ≤ x → get_or (warm_stored n j eta warm) x 0 ≡ get_or warm x 0) (sym e)
    (λ l. past_two warm (2 * j) (2 * j + 1) (to_bits binary64 eta.first) (to_bits binary64 eta.second) x (λ q. omega (arith, q, l)) (λ q. omega (arith, q, l)))

effects_more : (i k n : ℕ) → i ≤ k → n * i ≤ n * k
effects_more i k zero l = omega arith
effects_more i k (suc n) l = let h = effects_more i k n l in omega (arith, h, l)

module _ (setup : Setup) (counts : List ℕ) where
  before_next : (i k : ℕ) → i ≤ k → before counts i ≤ before counts k
  before_next i k l =
      ⊎_elim (λ (m : i < k). let h = before_later counts i k m in omega (arith, h)) (λ (m : k ≤ i). let e : i ≡ k = omega (arith, l, m) in rw e (omega arith)) (split i k)

  -- what stays from a subject on stays from a later one on
  later : (i k u v : ℕ) (h t : Held words) → i ≤ u → k ≤ v → Stays setup counts i k h t → Stays setup counts u v h t
  later i k u v h t l m s = record {
    results = λ x a b. s.results x (omega (arith, l, a)) b;
    predictions = λ x a. s.predictions x (let n = before_next i u l in omega (arith, a, n));
    warm = λ x a. s.warm x (let n = effects_more k v setup.effects m in omega (arith, n, a));
  }

  beyond : (i : ℕ) (h t : Held words) → i ≤ length counts → Stays setup counts i i h t → StaysBeyond setup counts h t
  beyond i h t l s = later i i (length counts) (length counts) h t l l s

  -- the words of the host's results and warm starts are the same
  pub record Same (h t : Held words) : Type 0 where
    pub warm : t.whole.warm ≡ h.whole.warm
    pub results : t.whole.results ≡ h.whole.results

  stays : (i k : ℕ) (ref h t : Held words) → Same h t → Stays setup counts i k ref h → Stays setup counts i k ref t
  stays i k ref h t e s = record {
    results = λ x a b. ap (λ (l : List ℕ). get_or l x 0) e.results ∙ s.results x a b;
    predictions = λ x a. ap (λ (l : List ℕ). get_or l x 0) e.results ∙ s.predictions x a;
    warm = λ x a. ap (λ (l : List ℕ). get_or l x 0) e.warm ∙ s.warm x a;
  }

  all_stay : (i k : ℕ) (h : Held words) → Stays setup counts i k h h
  all_stay i k h = record { results = λ x a b. refl; predictions = λ x a. refl; warm = λ x a. refl }

  refused_at : (number i : ℕ) (h t : Held words) → Stays setup counts i i h t → StaysAt setup counts number i h t
  refused_at number i h t s = both (λ (k : ℕ). Stays setup counts i k h t) (eqb number 17) (later i i i (suc i) h t (omega arith) (omega arith) s) s

  -- a place is of the subject of the state h
  About : Held words → Place → Type 0
  About h At.Nowhere = ⊥
  About h (At.Subject i) = i ≡ h.whole.progress.subject
  About h (At.Observation i n) = i ≡ h.whole.progress.subject

  -- an answer is of the subject of the state h
  Answers_at : Held words → Step → Held words → Type 0
  Answers_at h (Answers.Asked eta v) t = t.whole.progress.subject ≡ h.whole.progress.subject
  Answers_at h (Answers.Finished ofv) t = ⊥
  Answers_at h (Answers.Refused why) t = About h why.place

  -- ---- where a call stands: the words of its subject and the later ones are as the call found them
  module _ (ref : Held words) where
    abbrev Rest : Held words → Type 0
    Rest h = let i = h.whole.progress.subject in Stays setup counts i i ref h

    Follows : Moved (Held words) Step → Type 0
    Follows (on t) = Rest t
    Follows (halt x t) = Unwritten setup counts ref x t

    follows : (h t : Held words) (x : Step) → Same h t → Rest h → Answers_at h x t → Unwritten setup counts ref x t
    unfolding Answers_at About
    follows h t x e f q = unwritten x q
      where
        by_place : (number : ℕ) (place : Place) → About h place → StaysBy setup counts number place ref t
        by_place number At.Nowhere q = absurd q
        by_place number (At.Subject i) q = refused_at number i ref t (subst (λ (i : ℕ). Stays setup counts i i ref t) (sym q) (stays _ _ ref h t e f))
        by_place number (At.Observation i n) q = refused_at number i ref t (subst (λ (i : ℕ). Stays setup counts i i ref t) (sym q) (stays _ _ ref h t e f))

        unwritten : (x : Step) → Answers_at h x t → Unwritten setup counts ref x t
        unwritten (Answers.Asked eta v) q = subst (λ (i : ℕ). Stays setup counts i i ref t) (sym q) (stays _ _ ref h t e f)
        unwritten (Answers.Finished ofv) q = absurd q
        unwritten (Answers.Refused why) q = by_place why.number why.place q

    -- ---- a turn
    module _ (observations : List Observation) (lent : Lent) (a : Accepts setup counts lent) (h : Held words) (g : Going setup counts observations lent a h) (f : Rest h) where
      abbrev w : Whole words
      w = h.whole

      abbrev p : Progress
      p = w.progress

      abbrev j : ℕ
      j = p.subject

      abbrev fit : Fit
      fit = B.fit_of setup h.parameters

      abbrev rows : ℕ
      rows = rows_of counts j

      -- the state with these words
      abbrev to : Progress → Tally → List ℕ → List ℕ → List ℕ → Held words
      to q tally work warm results = held words h.parameters (whole_of words q tally w.kept work warm results)

      Ends : Turned → List ℕ → List ℕ → Type 0
      Ends (Continue q) warm results = (work : List ℕ) → Rest (to q w.tally work warm results)
      Ends (Break x) warm results = (work : List ℕ) → Unwritten setup counts ref x.step (to x.progress x.tally work warm results)

      closes : (t : Turned) (work warm results : List ℕ) → Ends t warm results → Follows (N.held_by words h.parameters (moved words w.tally w.kept work warm results t))
      unfolding Follows N.held_by moved Ends
      closes (Continue q) work warm results e = e work
      closes (Break x) work warm results e = e work

      refuses : (tally : Tally) (number : ℕ) → Ends (Break (B.refused_by p tally (B.refusal number (At.Subject j)))) w.warm w.results
      unfolding Ends B.refused_by Answers_at About
      refuses tally number work = follows h _ (Answers.Refused (B.refusal number (At.Subject j))) (record { warm = refl; results = refl }) f refl

      asks : (tally : Tally) (eta : Pair) (v : Answer Pair) → Ends (Break (B.ask_for p tally eta v)) w.warm w.results
      unfolding Ends B.ask_for Answers_at B.awaiting B.with_search
      asks tally eta (given v) work = follows h _ (Answers.Asked eta v) (record { warm = refl; results = refl }) f refl
      asks tally eta (refused n) work = refuses tally n work

      by_recall : (eta : Pair) (o : Option Recalled) → Ends (answered fit rows p w.tally eta w.work o).value w.warm w.results
      unfolding answered take Ends B.ask
      by_recall eta (Some r) =
          let s = advanced_alike fit p eta (B.sums_of r.terms) in
          λ work. subst (λ (i : ℕ). Stays setup counts i i ref (to (B.advance_by fit p eta (B.sums_of r.terms)).progress w.tally work w.warm w.results)) (sym s.subject)
          (stays j j ref h _ (record { warm = refl; results = refl }) f)
      by_recall eta None = both (λ (x : Halted). Ends (Break x) w.warm w.results) _ (asks _ eta _) (refuses w.tally 6)

      -- ---- a mode
      module _ (m : Mode) where
        abbrev stored : List ℕ
        stored = warm_stored fit.effects j m.eta w.warm

        abbrev written : List ℕ
        written = fitted_written (length counts) p.first w.work rows (result_written j m.eta m.nll w.results)

        warm_stays : (x : ℕ) → setup.effects * suc j ≤ x → get_or stored x 0 ≡ get_or ref.whole.warm x 0
        warm_stays x l =
            subst (λ (n : ℕ). get_or (warm_stored n j m.eta w.warm) x 0 ≡ get_or w.warm x 0) (sym (fit_effects setup h.parameters))
            (warm_past setup.effects j m.eta w.warm x a.effects l)
            ∙ f.warm x (let n = effects_more j (suc j) setup.effects (omega arith) in omega (arith, l, n))

        small : rows ≤ 100000
        small = (rows_within a j g.place.subject).1

        few : p.first ≤ 100000
        few = let e = g.place.first in let q = all_before a j g.place.subject in omega (arith, e, q, a.all)

        -- past 17 all words of the later subjects stay
        next_stays : (q : Progress) (work : List ℕ) → Stays setup counts (suc j) (suc j) ref (to q w.tally work stored written)
        next_stays q work =
            let e = g.place.first in let r = rows_exact a j g.place.subject in let n : before counts (suc j) ≡ before counts j + get_or counts j 0 = unfold before in refl in
            record {
              results = λ x l k.
                  result_kept (length counts) p.first w.work rows a.most few small j m.eta m.nll w.results x (omega (arith, k)) (inr (omega (arith, l)))
                  ∙ f.results x (omega (arith, l)) k;
              predictions = λ x l.
                  result_past (length counts) p.first w.work rows a.most few small j m.eta m.nll w.results x g.place.subject (omega (arith, l, e, r, n))
                  ∙ f.predictions x (omega (arith, l, n));
              warm = warm_stays;
            }

        -- 17 leaves the results
        refused_stays : (q : Progress) (work : List ℕ) → Stays setup counts j (suc j) ref (to q w.tally work stored w.results)
        refused_stays q work = record { results = f.results; predictions = f.predictions; warm = warm_stays }

        ends : (ofv squares : Float) → Ends (Break (B.objective_of p w.tally ofv squares)) stored written
        unfolding Ends B.objective_of B.refused_by
        ends ofv squares = both (λ (x : Halted). Ends (Break x) stored written) _ (λ work. last work) (λ work. last work)
          where
            last : {q : Progress} (work : List ℕ) → StaysBeyond setup counts ref (to q w.tally work stored written)
            last {q} work = beyond (suc j) ref _ g.place.subject (next_stays q work)

        next_subject_lem : raised j 1 ≡ suc j
        next_subject_lem = let q = g.place.subject in mod-eq_of_lt (omega (arith, q, a.most)) ∙ omega arith

        next_begins : (effects i first : ℕ) (warm : Pair) (ofv squares : Float) → i ≡ suc j → Ends (Continue (B.begin_subject effects i first warm ofv squares)) stored written
        unfolding Ends B.begin_subject
        next_begins effects i first warm ofv squares e work =
            let q = B.begin_subject effects i first warm ofv squares in subst (λ (n : ℕ). Stays setup counts n n ref (to q w.tally work stored written)) (sym e) (next_stays q work)

        next : Ends (next_subject fit counts p w.tally m rows stored w.work).value stored written
        unfolding next_subject
        next = both (λ (x : Worked Turned). Ends x.value stored written) _ (next_begins _ _ _ _ _ _ next_subject_lem) (ends _ _)

        at_17 : Ends (Break (B.refused_by p w.tally (B.refusal 17 (At.Subject j)))) stored w.results
        unfolding Ends B.refused_by pick
        at_17 work = refused_stays _ work

      by_closed : (c : Option Mode) → let e = closing fit counts p w.tally rows w.work w.warm w.results c in Ends e.turned e.warm e.results
      unfolding closing
      by_closed None = refuses w.tally 16
      by_closed (Some m) = both (λ (e : Ended). Ends e.turned e.warm e.results) (is_same_grid w.work rows) (next m) (at_17 m)

      by_wanted : (v : Request Pair) → let e = served_by words fit counts p w.tally w.kept w.work w.warm w.results v in Ends e.turned e.warm e.results
      unfolding served_by at_mode at_point
      by_wanted (Wants.Point eta) = by_recall eta _
      by_wanted Wants.Mode = by_closed (B.closed_by fit p rows)
      by_wanted (Wants.Refused n) = refuses w.tally n

      turns_follow : Follows (N.turn_held words setup counts h)
      unfolding N.turn_held turn turned served
      turns_follow = closes _ _ _ _ (by_wanted (B.wanted_by fit p))

    -- ---- the loop
    abbrev Left : Ran (Held words) Step → Type 0
    Left r = Unwritten setup counts ref r.answer r.state

    module _ (observations : List Observation) (lent : Lent) (a : Accepts setup counts lent) where
      abbrev Goes : Held words → Type 0
      Goes = Going setup counts observations lent a

      after : (m : Moved (Held words) Step) (k : Held words → Ran (Held words) Step) → After Goes m → Follows m → ((t : Held words) → Goes t → Rest t → Left (k t)) → Left (onward m k)
      unfolding onward Follows After
      after (on t) k g e f = f t g e
      after (halt x t) k g e f = e

      loops : (n : ℕ) (h : Held words) → Goes h → Rest h → Left (loop (N.turn_held words setup counts) spent n h)
      unfolding loop
      loops zero h g f = beyond _ ref h (let l = g.place.subject in omega (arith, l)) f
      loops (suc n) h g f = after (N.turn_held words setup counts h) _ (turns_going setup counts observations lent a h g) (turns_follow observations lent a h g f) (loops n)

  -- ---- entries: they write no result and no warm start
  module _ (observations : List Observation) (h : Held words) where
    -- of the subject that h is at, or of the first
    Enters : Moved (Held words) Step → Type 0
    Enters (on t) = Same h t
    Enters (halt x t) = Same h t

    by_place : (number : ℕ) (place : Place) (t : Held words) → Same h t → StaysBy setup counts number place h t
    by_place number At.Nowhere t e = stays _ _ h h t e (all_stay _ _ h)
    by_place number (At.Subject i) t e = stays _ _ h h t e (all_stay _ _ h)
    by_place number (At.Observation i n) t e = stays _ _ h h t e (all_stay _ _ h)

    all_follow : (m : Moved (Held words) Step) → Enters m → Follows h m
    unfolding Enters Follows
    all_follow (on t) e = stays _ _ h h t e (all_stay _ _ h)
    all_follow (halt (Answers.Asked eta v) t) e = stays _ _ h h t e (all_stay _ _ h)
    all_follow (halt (Answers.Finished ofv) t) e = stays _ _ h h t e (all_stay _ _ h)
    all_follow (halt (Answers.Refused why) t) e = by_place why.number why.place t e

    unaltered : (number : ℕ) (place : Place) → Enters (N.unaltered words number place h)
    unfolding Enters
    unaltered number place = record { warm = refl; results = refl }

    over : (number : ℕ) (place : Place) → Enters (N.over words number place h)
    unfolding Enters N.over
    over number place = record { warm = refl; results = refl }

    when_admitted_lem : (go : Moved (Held words) Step) (v : Admission) → Enters go → Enters (N.when_admitted words h go v)
    unfolding N.when_admitted
    when_admitted_lem go (Ok tt) f = f
    when_admitted_lem go (Err (A.Refused n)) f = unaltered n _
    when_admitted_lem go (Err (A.Unsound place)) f = unaltered 4 _

    begun : (parameters : Parameters) → Enters (on (N.begun words setup counts parameters h.whole))
    unfolding Enters N.begun
    begun parameters = record { warm = refl; results = refl }

    replied : (fit : Fit) (eta : Pair) (work : List ℕ) (e : Evaluation) → Enters (N.replied words counts fit eta h work e)
    unfolding Enters N.replied
    replied f eta work (Ok sums) = record { warm = refl; results = refl }
    replied f eta work (Err (E.Refused n)) = over n _
    replied f eta work (Err (E.RefusedAt n i)) = over n _

    at_wanted_lem : (n : ℕ) (go : Pair → Moved (Held words) Step) → ((eta : Pair) → Enters (go eta)) → (v : Request Pair)
        → Enters (N.at_wanted words setup counts n (N.all_checked setup counts observations) h go v)
    unfolding N.at_wanted
    at_wanted_lem n go f (Wants.Point eta) = when_admitted_lem (go eta) _ (f eta)
    at_wanted_lem n go f Wants.Mode = unaltered 19 _
    at_wanted_lem n go f (Wants.Refused number) = unaltered 19 _

    when_awaited_lem : (n : ℕ) (go : Pair → Moved (Held words) Step) → ((eta : Pair) → Enters (go eta)) → Enters (N.when_awaited words setup counts n (N.all_checked setup counts observations) h go)
    unfolding N.when_awaited
    when_awaited_lem n go f = both Enters _ (both Enters _ (at_wanted_lem n go f _) (unaltered 19 _)) (unaltered 19 _)

    enters : (c : Call) → Enters (N.enter words setup counts observations c h)
    unfolding N.enter N.enter_reply N.enter_failure N.enter_objective N.answered
    enters (objective parameters) = both Enters _ (unaltered 19 At.Nowhere) (both Enters _ (when_admitted_lem _ _ (begun parameters)) (unaltered 19 At.Nowhere))
    enters (reply said) = when_awaited_lem _ _ (λ eta. replied _ eta _ _)
    enters failure = when_awaited_lem _ _ (λ eta. over 8 _)

  called : (observations : List Observation) (lent : Lent) (a : Accepts setup counts lent) (c : Call) (h : Held words) → Going setup counts observations lent a h
      → let r = call (N.session words setup counts observations) c h in Unwritten setup counts h r.answer r.state
  unfolding call
  called observations lent a c h g =
      after h observations lent a (N.enter words setup counts observations c h) _ (enters_going setup counts observations lent a h g c) (all_follow observations h _ (enters observations h c))
      (loops h observations lent a N.fuel)

pub every_unwritten : EveryUnwritten
every_unwritten setup counts observations lent results b acts c =
    let a = accepts setup counts lent (N.all_checked setup counts observations) b.passes in
    let room : Room setup.k = record { some = some_room setup a.shape_in; most = shape_low {b = false} setup (sym a.shape_in) refl } in
    let from : (I : Inner) → Suits I setup.effects → Going setup counts observations lent a (run (N.session words setup counts observations) (N.opened words setup counts lent results) acts) =
    λ I Q. (both_hold setup counts observations I Q b.bound b.limit lent results b.many b.long b.passes a room acts).1 in
    called setup counts observations lent a c _ (⊎_elim
    (λ (one : setup.effects ≡ 1). from inner1 (subst (Suits inner1) (sym one) suits1))
    (λ (two : setup.effects ≡ 2). from inner2 (subst (Suits inner2) (sym two) suits2))
    a.effects)
