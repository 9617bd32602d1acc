-- Every turn of a session's machine goes one of the ways that `Lawful` names. Assumes nothing.
use Rattle.std.specs.Prelude.{None, Option, Some}
use mathlib.Core.Path.{◌≡◌, refl, sym, ap, subst, ◌∙◌}
use mathlib.Core.Bool.{true, false}
use mathlib.Core.List.{List}
use Prim.Native.Nat.{ℕ, suc, ◌≤◌, ◌<◌}
use native.Mathlib.Nat.{mod-eq_of_lt}
use native.Mathlib.Omega.{arith}
use borrow.Author.Tests.{ltb-true, ltb-false, eq-eqb}
use lib.Dec.{T, ltb, eqb, eqb→eq}
use lib.ListN.{length}
use lib.Ieee.{Float, binary64, to_bits}
use lib.Ieee.Bits.{of_bits-fits, of_bits-to_bits}
use Rattle.float64.specs.Answer.{Answer, given, refused}
use Rattle.float64.specs.Arithmetic.{word}
use Rattle.float64.specs.Float64.{nonfinite}
use Rattle.float64.specs.Pick.{pick, both, cases}
use Rattle.matrix.specs.declared.Pair.{Pair}
use Rattle.likelihood.specs.declared.population_focei.Observation.{Observation}
use Rattle.subject.specs.Subject.{individual, individual_values}
use Rattle.subject.specs.declared.Sums.{Sums}
use Rattle.words.specs.Words.{zeros}
use Rattle.work.specs.Work.{block, move_rows, is_same_grid}
use Rattle.setup.specs.declared.Setup.{Setup}
use Rattle.search.specs.Subjects as B
use Rattle.search.specs.declared.Tally.{Tally}
use Rattle.search.specs.declared.Fit.{Fit}
use Rattle.search.specs.declared.Place.{Place}
use Rattle.search.specs.declared.Place.TheVariants as At
use Rattle.search.specs.declared.Progress.{Progress}
use Rattle.search.specs.declared.Step.{Step}
use Rattle.search.specs.declared.Step.TheVariants as Answers
use Rattle.search.specs.declared.Halted.{Halted}
use Rattle.search.specs.declared.Mode.{Mode}
use Rattle.search.proofs.Fits.{fit_effects, fit_k, fit_most, fit_bound}
use Rattle.cache.specs.declared.CacheKey.{CacheKey}
use Rattle.machine.specs.Lawful.{Over, Turn}
use Rattle.machine.specs.Lawful.Turn.{hit, short, wild, miss, next, barred, last, fails}
use Rattle.machine.specs.Log.{OfEvaluation}
use Rattle.machine.specs.Machine.{Moved, on, halt, Machine}
use Rattle.machine.specs.Observed.{View, wanted_at}
use Rattle.machine.specs.Observed as Observed
use Rattle.machine.specs.Rules.{point, mode}
use Rattle.population.specs.Kept.{Recalled, Store}
use Rattle.population.specs.Population.{rows_of, warm_of, take, answered, at_point, Worked, next_subject, raised, Ended, ended, closing, at_mode, served_by, served, is_over, turned, Whole, whole_of, moved, Turned}
use Rattle.population.specs.Population.{turn}
use Rattle.session.specs.Session.{Held, held, held_by, turn_held, session}
use Rattle.session_theorems.specs.Inner.{Inner, recalled_sums, view}
use Rattle.session_theorems.proofs.Fitting.{Fits, FitsBoth}
use Rattle.session_theorems.proofs.Lengths.{AsLong, zeros_length, move_rows_length}
use Rattle.session_theorems.proofs.Points.{WithinEdge, zero_in_16, Passed, values_within}
use Rattle.session_theorems.proofs.Searches.{Suits, wants_of}
use Rattle.session_theorems.proofs.Standing.{Alike, advanced_alike, recall_of, Standing, still}
use Rattle.session_theorems.proofs.Stores.{Fine, Trusted}
use Rattle.std.specs.declared.ops.ControlFlow.TheVariants.{Break, Continue}
use Rattle.mode.specs.declared.Request.{Request}
use Rattle.mode.specs.declared.Request.TheVariants as Wants

-- ---- the bits of a point tell it
pub key_fine : (fit : Fit) (subject : ℕ) (eta : Pair) (effects : ℕ) → fit.effects ≡ effects → FitsBoth eta
    → (WithinEdge (word (B.key_of fit subject eta).eta0) → WithinEdge (word (B.key_of fit subject eta).eta1) → Passed eta effects) ×
    (Passed eta effects → WithinEdge (word (B.key_of fit subject eta).eta0) × WithinEdge (word (B.key_of fit subject eta).eta1))
unfolding B.key_of B.key1 B.key2
key_fine fit subject eta effects e f =
    let one : word (to_bits binary64 eta.first) ≡ eta.first = of_bits-to_bits binary64 eta.first f.first in
    let two : word (to_bits binary64 eta.second) ≡ eta.second = of_bits-to_bits binary64 eta.second f.second in
    cases (λ (k : CacheKey). (WithinEdge (word k.eta0) → WithinEdge (word k.eta1) → Passed eta effects) × (Passed eta effects → WithinEdge (word k.eta0) × WithinEdge (word k.eta1)))
    (eqb fit.effects 2)
    (λ q. (
      λ a b. record { first = subst WithinEdge one a; second = λ k. subst WithinEdge two b },
      λ p. (
        subst WithinEdge (sym one) p.first,
        subst WithinEdge (sym two)
            (p.second (sym e ∙ is_two fit.effects q)),
      ),
    ))
    (λ q. (λ a b. record { first = subst WithinEdge one a; second = λ k. absurd (subst T (sym (eq-eqb _ _ (e ∙ k)) ∙ q) tt) }, λ p. (subst WithinEdge (sym one) p.first, zero_in_16)))
  where
    is_two : (n : ℕ) → eqb n 2 ≡ true → n ≡ 2
    is_two n q = eqb→eq _ _ (subst T (sym q) tt)

pub words_fit : (a b : ℕ) → FitsBoth (record { first = word a; second = word b })
words_fit a b = record { first = of_bits-fits binary64 a; second = of_bits-fits binary64 b }

pub warm_of_fits : (warm : List ℕ) (effects subject : ℕ) → FitsBoth (warm_of warm effects subject)
unfolding warm_of
warm_of_fits warm effects subject = both FitsBoth _ (words_fit _ _) (words_fit _ 0)

-- 7 is the only number of a point that is not asked for
seven : (theta eta : Pair) (effects n : ℕ) → individual_values theta eta effects ≡ refused n → OfEvaluation n
unfolding individual_values
seven theta eta effects n =
    both Only _ is_seven
    (both Only _ (both Only _ is_seven (is_given (record { first = individual theta.first eta.first; second = individual theta.second eta.second })))
    (is_given (record { first = individual theta.first eta.first; second = word 0 })))
  where
    Only : Answer Pair → Type 0
    Only a = a ≡ refused n → OfEvaluation n

    is_seven : Only (refused 7)
    is_seven e = let q : 7 ≡ n = cc in (omega (arith, q), omega (arith, q))

    is_given : (v : Pair) → Only (given v)
    is_given v e = let z : ◌≡◌ {A = ℕ} 0 1 = cc in absurd (omega (arith, z))

module _ (S : Store) (setup : Setup) (counts : List ℕ) (observations : List Observation) (I : Inner) (Q : Suits I setup.effects) (U : Trusted S setup.k) (bound : Fits setup.eta_bound)
    (most-subjects : length counts ≤ 4096) where
  abbrev M : Machine
  M = session S setup counts observations

  abbrev Y : View I.rules M
  Y = view S setup counts observations I

  abbrev Stands : Held S → Type 0
  Stands = Standing S setup counts observations I Q U

  abbrev Goes : (h : Held S) → Moved (Held S) Step → Type 0
  Goes h m = Turn I.rules I.claims M Y Stands h m

  module _ (h : Held S) (s : Stands h) where
    abbrev w : Whole S
    w = h.whole

    abbrev p : Progress
    p = w.progress

    abbrev fit : Fit
    fit = B.fit_of setup h.parameters

    abbrev rows : ℕ
    rows = rows_of counts p.subject

    effects_are : fit.effects ≡ setup.effects
    effects_are = fit_effects setup h.parameters

    fits_bound : Fits fit.eta_bound
    fits_bound = subst Fits (sym (fit_bound setup h.parameters)) bound

    domain : I.claims.Domain (I.settings_of fit p)
    domain = Q.domain setup h.parameters p refl bound s.omega_in s.shape_in s.warm_fits

    wants_is : (v : Request Pair) → B.wanted_by fit p ≡ v → wanted_at I.rules M Y h ≡ wants_of I v
    wants_is v e = sym (Q.wants fit p effects_are) ∙ ap (wants_of I) e

    -- what a turn makes of the end of a request
    abbrev close_turn : Ended → Moved (Held S) Step
    close_turn e = held_by S h.parameters (moved S w.tally w.kept (pick (is_over e.turned) (zeros (length e.work)) e.work) e.warm e.results e.turned)

    goes_on : (q : Progress) (work warm results : List ℕ) → close_turn (ended (Continue q) work warm results) ≡ on (held S h.parameters (whole_of S q w.tally w.kept work warm results))
    unfolding held_by moved is_over pick
    goes_on q work warm results = refl

    halts : (x : Halted) (work warm results : List ℕ) → close_turn (ended (Break x) work warm results)
        ≡ halt x.step (held S h.parameters (whole_of S x.progress x.tally w.kept (pick (B.is_over x.step) (zeros (length work)) work) warm results))
    unfolding held_by moved is_over
    halts x work warm results = refl

    -- ---- a refusal or the end of the objective
    over : (q : Progress) (tally : Tally) (work warm results : List ℕ) → q.subject ≡ p.subject → q.awaits ≡ false → q.warm ≡ p.warm → Q.Pointed q → w.tally.calls.0 ≤ tally.calls.0
        → tally.calls.0 ≤ setup.max_evaluations → AsLong w.work work → Over I.rules I.claims M Y Stands tally.calls.0
        (held S h.parameters (whole_of S q tally w.kept (zeros (length work)) warm results))
    over q tally work warm results same idle warmth pointed more most long = record {
      sound = still S setup counts observations I Q U h s q tally (zeros (length work)) warm results (subst (λ (i : ℕ). i < length counts) (sym same) s.subject) idle
          (subst FitsBoth (sym warmth) s.warm_fits) pointed more most (zeros_length (length work) ∙ long);
      idle = idle;
      tally = refl;
    }

    refused_over : (tally : Tally) (number : ℕ) (place : Place) (work warm results : List ℕ) → w.tally.calls.0 ≤ tally.calls.0 → tally.calls.0 ≤ setup.max_evaluations → AsLong w.work work
        → let x = B.refused_by p tally (B.refusal number place) in Over I.rules I.claims M Y Stands tally.calls.0 (held S h.parameters
        (whole_of S x.progress x.tally w.kept (pick (B.is_over x.step) (zeros (length work)) work) warm results))
    unfolding B.refused_by B.idle B.with_search B.is_over pick
    refused_over tally number place work warm results more most long = over (B.idle p) tally work warm results refl refl refl idle_pointed more most long
      where
        idle_pointed : Q.Pointed (B.idle p)
        idle_pointed = Q.pointed_idle p s.pointed

    refused_means : (tally : Tally) (number : ℕ) (place : Place) → Y.means (B.refused_by p tally (B.refusal number place)).step ≡ Observed.refused number
    unfolding B.refused_by
    refused_means tally number place = refl

    -- a refusal, by the law that it comes under; n evaluations are in the tally then
    refuses_with : (tally : Tally) (number : ℕ) (place : Place) (work warm results : List ℕ) (n : ℕ) → tally.calls.0 ≡ n
        → ((a : Step) (t : Held S) → Y.means a ≡ Observed.refused number → Over I.rules I.claims M Y Stands n t → Goes h (halt a t))
        → w.tally.calls.0 ≤ tally.calls.0 → tally.calls.0 ≤ setup.max_evaluations → AsLong w.work work → Goes h
        (close_turn (ended (Break (B.refused_by p tally (B.refusal number place))) work warm results))
    refuses_with tally number place work warm results n e law more most long =
        let x = B.refused_by p tally (B.refusal number place) in
        let t = held S h.parameters (whole_of S x.progress x.tally w.kept (pick (B.is_over x.step) (zeros (length work)) work) warm results) in
        subst (Goes h) (sym (halts x work warm results))
        (law x.step t (refused_means tally number place) (subst (λ (m : ℕ). Over I.rules I.claims M Y Stands m t) e (refused_over tally number place work warm results more most long)))

    -- ---- a point
    module _ (eta : Pair) (e : B.wanted_by fit p ≡ Wants.Point eta) where
      point_is : wanted_at I.rules M Y h ≡ point (I.point_of eta)
      point_is = wants_is (Wants.Point eta) e

      eta_fits : FitsBoth eta
      eta_fits = Q.points fit p eta effects_are fits_bound s.warm_fits s.pointed e

      -- a kept evaluation
      module _ (r : Recalled) (q : recall_of S setup counts observations I Q U h eta ≡ Some r) where
        abbrev sums : Sums
        sums = B.sums_of r.terms

        kept_is : (Y.kept h (I.point_of eta)).point ≡ I.conditional_of fit eta sums
        kept_is =
            ap (λ (x : Pair). I.conditional_of fit x (recalled_sums (recall_of S setup counts observations I Q U h x))) (Q.pairs fit p eta effects_are e)
            ∙ ap (λ (o : Option Recalled). I.conditional_of fit eta (recalled_sums o)) q

        found : Fine (B.key_of fit p.subject eta) r.terms × AsLong w.work r.work
        found = U.recalls s.count w.kept s.trust (B.key_of fit p.subject eta) rows w.work (block rows 3) r
            (subst (λ (k : ℕ). S.recall w.kept k (B.key_of fit p.subject eta) rows w.work (block rows 3) ≡ Some r) (fit_k setup h.parameters) q)

        passed : Passed eta setup.effects
        passed = (key_fine fit p.subject eta setup.effects effects_are eta_fits).0 found.0.first found.0.second

        answers : I.rules.Answers (I.rules.request (I.settings_of fit p) (I.search_of p)) (I.conditional_of fit eta sums)
        answers = Q.answers fit p eta sums effects_are domain e passed found.0.finite

        abbrev after : Progress
        after = (B.advance_by fit p eta sums).progress

        alike : Alike p after
        alike = advanced_alike fit p eta sums

        long : AsLong w.work (move_rows rows (B.advance_by fit p eta sums).sources r.work)
        long = move_rows_length rows (B.advance_by fit p eta sums).sources r.work ∙ found.1

        stands_on : Stands (held S h.parameters (whole_of S after w.tally w.kept (move_rows rows (B.advance_by fit p eta sums).sources r.work) w.warm w.results))
        stands_on = still S setup counts observations I Q U h s after w.tally _ w.warm w.results (subst (λ (i : ℕ). i < length counts) (sym alike.subject) s.subject) alike.idle
            (subst FitsBoth (sym alike.warm) s.warm_fits) (Q.pointed_on fit p eta sums effects_are fits_bound s.pointed) (omega arith) s.limit long

        hits : Goes h (on (held S h.parameters (whole_of S after w.tally w.kept (move_rows rows (B.advance_by fit p eta sums).sources r.work) w.warm w.results)))
        hits = hit point_is (subst (I.rules.Answers _) (sym kept_is) answers) (record {
          kept = record { sound = stands_on; subject = alike.subject; settings = Q.settings fit p after alike.warm };
          search = Q.advances fit p eta sums effects_are ∙ ap (I.rules.advance (I.settings_of fit p) (I.search_of p)) (sym kept_is);
          tally = refl;
        })

      -- none is kept
      module _ (q : recall_of S setup counts observations I Q U h eta ≡ None) where
        abbrev asking : Pair → Held S
        asking v = held S h.parameters (whole_of S (B.awaiting p v) (B.counted w.tally) w.kept w.work w.warm w.results)

        stands_asking : (v : Pair) → w.tally.calls.0 < setup.max_evaluations → individual_values fit.theta eta fit.effects ≡ given v → Stands (asking v)
        unfolding B.awaiting B.counted B.wanted_by B.settings B.settings2
        stands_asking v l d = record {
          subject = s.subject;
          roomy = s.roomy;
          limit = omega (arith, l);
          omega_in = s.omega_in;
          shape_in = s.shape_in;
          warm_fits = s.warm_fits;
          pointed = Q.pointed_wait p v s.pointed;
          count = s.count;
          trust = s.trust;
          few = omega (arith, s.few);
          waiting = λ t. record { eta = eta; wants = e; passed = subst (Passed eta) effects_are (values_within fit.theta eta fit.effects v d); missing = q; fewer = omega (arith, s.few) };
        }

        asks : (v : Pair) → w.tally.calls.0 < setup.max_evaluations → individual_values fit.theta eta fit.effects ≡ given v → Goes h (halt (Answers.Asked eta v) (asking v))
        unfolding B.awaiting B.counted
        asks v l d = miss point_is refl (record { sound = stands_asking v l d; subject = refl; settings = Q.settings fit p (B.awaiting p v) refl }) (Q.waits p v) refl (omega arith)

        by_values : w.tally.calls.0 < setup.max_evaluations → (a : Answer Pair) → individual_values fit.theta eta fit.effects ≡ a
            → Goes h (close_turn (ended (Break (B.ask_for p (B.counted w.tally) eta a)) w.work w.warm w.results))
        unfolding B.ask_for B.counted B.is_over pick
        by_values l (given v) d = subst (Goes h) (sym (halts (B.ask_for p (B.counted w.tally) eta (given v)) w.work w.warm w.results)) (asks v l d)
        by_values l (refused n) d =
            refuses_with (B.counted w.tally) n (At.Subject p.subject) w.work w.warm w.results (suc w.tally.calls.0) (omega arith)
            (λ a t m o. wild point_is m (seven fit.theta eta fit.effects n d) o) (omega arith) (omega (arith, l)) refl

        by_limit : Goes h (close_turn (ended (Break (B.ask fit p w.tally eta)) w.work w.warm w.results))
        unfolding B.ask
        by_limit = cases (λ (x : Halted). Goes h (close_turn (ended (Break x) w.work w.warm w.results))) (ltb w.tally.calls.0 fit.max_evaluations)
            (λ l. by_values (subst (λ (m : ℕ). w.tally.calls.0 < m) (fit_most setup h.parameters) (ltb-true _ _ l)) (individual_values fit.theta eta fit.effects) refl)
            (λ l. refuses_with w.tally 6 (At.Subject p.subject) w.work w.warm w.results w.tally.calls.0 refl (λ a t m o. short point_is m (omega arith, omega arith) o)
            (omega arith) s.limit refl)

      by_recall : (o : Option Recalled) → recall_of S setup counts observations I Q U h eta ≡ o
          → Goes h (close_turn (ended (answered fit rows p w.tally eta w.work o).value (answered fit rows p w.tally eta w.work o).work w.warm w.results))
      unfolding answered take
      by_recall (Some r) q = subst (Goes h) (sym (goes_on _ _ w.warm w.results)) (hits r q)
      by_recall None q = by_limit q

      at_point_lem : Goes h (close_turn (served_by S fit counts p w.tally w.kept w.work w.warm w.results (Wants.Point eta)))
      unfolding served_by at_point
      at_point_lem = by_recall (recall_of S setup counts observations I Q U h eta) refl

    -- ---- a mode
    module _ (e : B.wanted_by fit p ≡ Wants.Mode) where
      mode_is : wanted_at I.rules M Y h ≡ mode
      mode_is = wants_is Wants.Mode e

      module _ (m : Mode) (warm results : List ℕ) where
        abbrev subject : ℕ
        subject = raised p.subject 1

        raised_is : subject ≡ suc p.subject
        raised_is = mod-eq_of_lt (omega (arith, s.subject, most-subjects)) ∙ omega arith

        begins : (first : ℕ) (ofv squares : Float) → ltb subject (length counts) ≡ true
            → Goes h (on (held S h.parameters (whole_of S (B.begin_subject fit.effects subject first (warm_of warm fit.effects subject) ofv squares) w.tally w.kept
            (zeros (length w.work)) warm results)))
        unfolding B.begin_subject
        begins first ofv squares l =
            let f = warm_of_fits warm fit.effects subject in
            let q = B.begin_subject fit.effects subject first (warm_of warm fit.effects subject) ofv squares in
            let inside : subject < length counts = ltb-true _ _ l in
            next mode_is (record {
              sound = still S setup counts observations I Q U h s q w.tally (zeros (length w.work)) warm results inside refl f (Q.pointed_start fit.effects subject first _ ofv squares)
                  (omega arith) s.limit (zeros_length _);
              domain = Q.domain setup h.parameters q refl bound s.omega_in s.shape_in f;
              subject = raised_is;
              within = subst (λ (i : ℕ). i < length counts) raised_is inside;
              search = Q.starts fit.effects subject first _ ofv squares;
              tally = refl;
            })

        ends : (ofv squares : Float) → ltb subject (length counts) ≡ false
            → Goes h (halt (Answers.Finished ofv) (held S h.parameters (whole_of S (B.finished p ofv squares) w.tally w.kept (zeros (length w.work)) warm results)))
        unfolding B.finished
        ends ofv squares l =
            let last_one : length counts ≤ subject = ltb-false _ _ l in
            last mode_is refl (let g : length counts ≤ suc p.subject = subst (λ (i : ℕ). length counts ≤ i) raised_is last_one in omega (arith, s.subject, g))
            (over (B.finished p ofv squares) w.tally w.work warm results refl refl refl (Q.pointed_end p ofv squares s.pointed) (omega arith) s.limit refl)

        finishes : (ofv squares : Float) → ltb subject (length counts) ≡ false → Goes h (close_turn (ended (Break (B.objective_of p w.tally ofv squares)) w.work warm results))
        unfolding B.objective_of B.is_over pick
        finishes ofv squares l = cases (λ (x : Halted). Goes h (close_turn (ended (Break x) w.work warm results))) (nonfinite ofv)
            (λ t. refuses_with w.tally 18 At.Nowhere w.work warm results w.tally.calls.0 refl (λ a t n o. barred mode_is n o) (omega arith) s.limit refl)
            (λ t. subst (Goes h) (sym (halts (record { progress = B.finished p ofv squares; tally = w.tally; step = Answers.Finished ofv }) w.work warm results)) (ends ofv squares l))

        next_or_end : Goes h (close_turn (ended (next_subject fit counts p w.tally m rows warm w.work).value (next_subject fit counts p w.tally m rows warm w.work).work warm results))
        unfolding next_subject
        next_or_end = cases (λ (x : Worked Turned). Goes h (close_turn (ended x.value x.work warm results))) (ltb subject (length counts))
            (λ l. subst (Goes h) (sym (goes_on _ _ warm results)) (begins _ _ _ l)) (λ l. finishes _ _ l)

      by_closed : (c : Option Mode) → Goes h (close_turn (closing fit counts p w.tally rows w.work w.warm w.results c))
      unfolding closing
      by_closed None = refuses_with w.tally 16 (At.Subject p.subject) w.work w.warm w.results w.tally.calls.0 refl (λ a t n o. barred mode_is n o) (omega arith) s.limit
          refl
      by_closed (Some m) = cases (λ (x : Ended). Goes h (close_turn x)) (is_same_grid w.work rows) (λ g. next_or_end m _ _)
          (λ g. refuses_with w.tally 17 (At.Subject p.subject) w.work _ w.results w.tally.calls.0 refl (λ a t n o. barred mode_is n o) (omega arith) s.limit refl)

      at_mode_lem : Goes h (close_turn (served_by S fit counts p w.tally w.kept w.work w.warm w.results Wants.Mode))
      unfolding served_by at_mode
      at_mode_lem = by_closed (B.closed_by fit p rows)

    at_refusal : (n : ℕ) → B.wanted_by fit p ≡ Wants.Refused n → Goes h (close_turn (served_by S fit counts p w.tally w.kept w.work w.warm w.results (Wants.Refused n)))
    unfolding served_by
    at_refusal n e = refuses_with w.tally n (At.Subject p.subject) w.work w.warm w.results w.tally.calls.0 refl (λ a t m o. fails (wants_is (Wants.Refused n) e) m o) (omega arith)
        s.limit refl

    -- ---- every request
    by_wanted : (v : Request Pair) → B.wanted_by fit p ≡ v → Goes h (close_turn (served_by S fit counts p w.tally w.kept w.work w.warm w.results v))
    by_wanted (Wants.Point eta) e = at_point_lem eta e
    by_wanted Wants.Mode e = at_mode_lem e
    by_wanted (Wants.Refused n) e = at_refusal n e

    pub turns : Goes h (turn_held S setup counts h)
    unfolding turn_held turn turned served
    turns = by_wanted (B.wanted_by fit p) refl
