-- Every entry into a session's machine goes one of the ways that `Lawful` names: refused with nothing changed, an objective begins, a reply goes on, or ends the objective. Assumes nothing.
use Rattle.std.specs.Prelude.{Err, Ok, None}
use mathlib.Core.Path.{◌≡◌, refl, sym, ap, subst, ◌∙◌}
use mathlib.Core.Bool.{true, false}
use mathlib.Core.List.{List}
use mathlib.Core.Logic.{◌⊎◌, inl, inr}
use Prim.Native.Nat.{ℕ, suc, ◌+◌, ◌*◌, ◌≤◌, ◌<◌}
use native.Mathlib.Omega.{arith}
use lib.Dec.{T}
use lib.ListN.{length, take, drop, length-take}
use Rattle.float64.specs.Pick.{both, cases}
use Rattle.matrix.specs.declared.Pair.{Pair}
use Rattle.likelihood.specs.declared.population_focei.Observation.{Observation}
use Rattle.subject.specs.Subject.{Evaluating, has_nonfinite_sum, finish, Evaluation}
use Rattle.subject.specs.declared.Trial.{Trial}
use Rattle.subject.specs.declared.Sums.{Sums}
use Rattle.subject.specs.Claim.{Evaluates}
use Rattle.subject.proofs.Ends.{finite_sums, evaluates}
use Rattle.words.specs.Words.{zeros}
use Rattle.work.specs.Work.{block, move_rows}
use Rattle.cache.specs.Cache.{row_words}
use Rattle.setup.specs.Admission.{with_parameters, Admission}
use Rattle.setup.specs.declared.Setup.{Setup}
use Rattle.setup.specs.declared.Parameters.{Parameters}
use Rattle.search.specs.Subjects as B
use Rattle.search.specs.declared.Fit.{Fit}
use Rattle.search.specs.declared.Place.{Place}
use Rattle.search.specs.declared.Place.TheVariants as At
use Rattle.search.specs.declared.Progress.{Progress}
use Rattle.search.specs.declared.Step.{Step}
use Rattle.search.proofs.Fits.{fit_effects, fit_k, fit_bound}
use Rattle.machine.specs.Lawful.{Enters}
use Rattle.machine.specs.Lawful.Enters.{same, begins, replied, failed}
use Rattle.machine.specs.Log.{OfEvaluation}
use Rattle.machine.specs.Machine.{Moved, on, Machine}
use Rattle.machine.specs.Observed.{View}
use Rattle.population.specs.Kept.{Store}
use Rattle.population.specs.Population.{rows_of, take as takes, receive, Whole}
use Rattle.session.specs.Session as N
use Rattle.session.specs.Session.{Held, Call, objective, reply, failure, session}
use Rattle.session_theorems.specs.Inner.{Inner, running_sums, point_wanted, view}
use Rattle.session_theorems.proofs.Accepted.{accepts}
use Rattle.session_theorems.proofs.Evaluated.{work_length, sums_fit, terms_finite}
use Rattle.session_theorems.proofs.Fitting.{Fits, FitsBoth}
use Rattle.session_theorems.proofs.Lengths.{AsLong, zeros_length, move_rows_length}
use Rattle.session_theorems.proofs.Points.{Passed}
use Rattle.session_theorems.proofs.Searches.{Suits}
use Rattle.session_theorems.proofs.Standing.{Alike, advanced_alike, recall_of, Waiting, Standing, still}
use Rattle.session_theorems.proofs.Stores.{Fine, Trusted}
use Rattle.session_theorems.proofs.Turns.{key_fine, warm_of_fits}
use Rattle.subject.specs.declared.EvaluationError.TheVariants as E
use Rattle.setup.specs.declared.AdmissionError.TheVariants as A
use Rattle.mode.specs.declared.Request.{Request}
use Rattle.mode.specs.declared.Request.TheVariants as Wants

-- the trial block is the last of four
pub block_end : (rows : ℕ) → rows ≤ 100000 → block rows 3 + row_words * rows ≡ 12 * rows
unfolding block
block_end rows h = omega (arith, h)

module _ (S : Store) (setup : Setup) (counts : List ℕ) (observations : List Observation) (I : Inner) (Q : Suits I setup.effects) (U : Trusted S setup.k) (bound : Fits setup.eta_bound)
    (word-limit : setup.max_evaluations ≤ 4294967295) (some-subject : 1 ≤ length counts) (each : (i : ℕ) → i < length counts → (1 ≤ rows_of counts i) × (rows_of counts i ≤ 100000)) where
  abbrev M : Machine
  M = session S setup counts observations

  abbrev Y : View I.rules M
  Y = view S setup counts observations I

  abbrev Stands : Held S → Type 0
  Stands = Standing S setup counts observations I Q U

  abbrev Goes : (c : Call) (h : Held S) → Moved (Held S) Step → Type 0
  Goes c h m = Enters I.rules I.claims M Y Stands c h m

  module _ (c : Call) (h : Held S) (s : Stands h) where
    abbrev w : Whole S
    w = h.whole

    abbrev p : Progress
    p = w.progress

    abbrev fit : Fit
    fit = B.fit_of setup h.parameters

    -- a refusal that alters nothing
    unaltered : (number : ℕ) (place : Place) → Goes c h (N.unaltered S number place h)
    unaltered number place = same refl

    when_admitted_lem : (go : Moved (Held S) Step) (a : Admission) → (a ≡ Ok tt → Goes c h go) → Goes c h (N.when_admitted S h go a)
    unfolding N.when_admitted
    when_admitted_lem go (Ok tt) f = f refl
    when_admitted_lem go (Err (A.Refused n)) f = unaltered n At.Nowhere
    when_admitted_lem go (Err (A.Unsound place)) f = unaltered 4 _

    -- a refusal that ends the objective
    over : p.awaits ≡ true → (number : ℕ) → OfEvaluation number → (place : Place) → Goes c h (N.over S number place h)
    unfolding N.over B.idle B.with_search
    over t number b place = failed t refl b (record {
      sound = still S setup counts observations I Q U h s (B.idle p) w.tally (zeros (length w.work)) w.warm w.results s.subject refl s.warm_fits (Q.pointed_idle p s.pointed)
          (omega arith) s.limit (zeros_length (length w.work));
      idle = refl;
      tally = refl;
    })

    -- ---- an objective
    starts : (parameters : Parameters) → p.awaits ≡ false → N.admitted S setup counts (length observations) (N.all_checked setup counts observations) parameters w ≡ Ok tt → Goes c h
        (on (N.begun S setup counts parameters w))
    unfolding N.begun N.admitted B.begin_subject
    starts parameters idle e =
        let a = accepts (with_parameters setup parameters) counts (N.lent_of S setup (length observations) w) (N.all_checked setup counts observations) e in
        let f = warm_of_fits w.warm setup.effects 0 in
        begins idle (record {
          sound = record {
            subject = some-subject;
            roomy = s.roomy;
            limit = s.limit;
            omega_in = a.omega_in;
            shape_in = a.shape_in;
            warm_fits = f;
            pointed = Q.pointed_start setup.effects 0 0 _ _ _;
            count = s.count;
            trust = s.trust;
            few = s.few;
            waiting = λ t. absurd (subst T (sym t) tt);
          };
          domain = Q.domain setup parameters _ refl bound a.omega_in a.shape_in f;
          subject = refl;
          within = some-subject;
          search = Q.starts setup.effects 0 0 _ _ _;
          tally = refl;
        })

    at_objective : (parameters : Parameters) → Goes c h (N.enter_objective S setup counts (length observations) (N.all_checked setup counts observations) parameters h)
    unfolding N.enter_objective
    at_objective parameters =
        cases (Goes c h) p.awaits (λ t. unaltered 19 At.Nowhere)
        (λ t. both (Goes c h) (N.standing S setup counts (length observations) w) (when_admitted_lem _ _ (starts parameters t)) (unaltered 19 At.Nowhere))

    -- ---- a reply is awaited
    at_wanted_lem : (go : Pair → Moved (Held S) Step) (v : Request Pair) → ((eta : Pair) → v ≡ Wants.Point eta → Goes c h (go eta)) → Goes c h
        (N.at_wanted S setup counts (length observations) (N.all_checked setup counts observations) h go v)
    unfolding N.at_wanted
    at_wanted_lem go (Wants.Point eta) f = when_admitted_lem (go eta) _ (λ e. f eta refl)
    at_wanted_lem go Wants.Mode f = unaltered 19 At.Nowhere
    at_wanted_lem go (Wants.Refused n) f = unaltered 19 At.Nowhere

    when_awaited_lem : (go : Pair → Moved (Held S) Step) → (p.awaits ≡ true → (eta : Pair) → B.wanted_by fit p ≡ Wants.Point eta → Goes c h (go eta)) → Goes c h
        (N.when_awaited S setup counts (length observations) (N.all_checked setup counts observations) h go)
    unfolding N.when_awaited
    when_awaited_lem go f =
        cases (Goes c h) p.awaits (λ t. both (Goes c h) (N.standing S setup counts (length observations) w) (at_wanted_lem go (B.wanted_by fit p) (f t)) (unaltered 19 At.Nowhere))
        (λ t. unaltered 19 At.Nowhere)

  -- ---- a reply
  module _ (words : List ℕ) (h : Held S) (s : Stands h) (t : h.whole.progress.awaits ≡ true) (eta : Pair) (e : B.wanted_by (B.fit_of setup h.parameters) h.whole.progress ≡ Wants.Point eta)
    where
      abbrev v : Whole S
      v = h.whole

      abbrev r : Progress
      r = v.progress

      abbrev own : Fit
      own = B.fit_of setup h.parameters

      abbrev rows : ℕ
      rows = rows_of counts r.subject

      abbrev ended : Evaluating
      ended = N.evaluated S setup counts observations own words r v.work

      abbrev trial : Trial
      trial = N.trial_of S setup counts own r

      abbrev lists : List Observation
      lists = take rows (drop r.first observations)

      effects_are : own.effects ≡ setup.effects
      effects_are = fit_effects setup h.parameters

      fits_bound : Fits own.eta_bound
      fits_bound = subst Fits (sym (fit_bound setup h.parameters)) bound

      waits : Waiting S setup counts observations I Q U h s.count
      waits = s.waiting t

      same_eta : waits.eta ≡ eta
      same_eta = let a = waits.wants in cc

      passed : Passed eta setup.effects
      passed = subst (λ (x : Pair). Passed x setup.effects) same_eta waits.passed

      eta_fits : FitsBoth eta
      eta_fits = Q.points own r eta effects_are fits_bound s.warm_fits s.pointed e

      long : AsLong v.work ended.work
      long = work_length trial words setup.width setup.effects setup.output_budget lists v.work

      module _ (sums : Sums) (d : finish ended.evaluation ≡ Ok sums) where
        finite : has_nonfinite_sum sums ≡ false
        finite = finite_sums ended.evaluation sums d

        fine : Fine (B.key_of own r.subject eta) (B.terms_of sums)
        fine =
            let k = (key_fine own r.subject eta setup.effects effects_are eta_fits).1 passed in
            record { first = k.0; second = k.1; finite = terms_finite sums (sums_fit trial words setup.width setup.effects setup.output_budget lists v.work sums d) finite }

        given_is : (Y.given (reply words) h).point ≡ I.conditional_of own eta sums
        given_is = ap (λ (x : Request Pair). I.conditional_of own (point_wanted x) (running_sums (finish ended.evaluation))) e ∙ ap (λ (x : Evaluation). I.conditional_of own eta (running_sums x)) d

        abbrev after : Progress
        after = (B.advance_by own r eta sums).progress

        alike : Alike r after
        alike = advanced_alike own r eta sums

        long_on : AsLong v.work (move_rows rows (B.advance_by own r eta sums).sources ended.work)
        long_on = move_rows_length rows (B.advance_by own r eta sums).sources ended.work ∙ long

        missing : S.recall v.kept setup.k (B.key_of own r.subject eta) rows v.work (block rows 3) ≡ None
        missing =
            subst (λ (k : ℕ). S.recall v.kept k (B.key_of own r.subject eta) rows v.work (block rows 3) ≡ None) (fit_k setup h.parameters)
            (subst (λ (x : Pair). recall_of S setup counts observations I Q U h x ≡ None) same_eta waits.missing)

        abbrev keep : ℕ → S.Kept
        keep k = S.keep v.kept k (B.key_of own r.subject eta) (B.terms_of sums) rows ended.work (block rows 3)

        lent : block rows 3 + row_words * rows ≤ length ended.work
        lent = subst (λ (n : ℕ). block rows 3 + row_words * rows ≤ n) (sym long) (subst (λ (n : ℕ). n ≤ length v.work) (sym (block_end rows (each r.subject s.subject).1))
            (s.roomy r.subject s.subject))

        trusted : U.Holds (suc s.count) (keep own.k)
        trusted = subst (λ (k : ℕ). U.Holds (suc s.count) (keep k)) (sym (fit_k setup h.parameters))
            (U.keeps s.count v.kept s.trust (let a = waits.fewer in omega (arith, a, s.limit, word-limit)) (B.key_of own r.subject eta) (B.terms_of sums) rows ended.work (block rows 3)
            v.work (block rows 3)
            missing fine (each r.subject s.subject).0 lent)

        goes : Goes (reply words) h (N.replied S counts own eta h ended.work (Ok sums))
        unfolding N.replied receive takes
        goes = replied t
            (subst (I.rules.Answers _) (sym given_is) (Q.answers own r eta sums effects_are (Q.domain setup h.parameters r refl bound s.omega_in s.shape_in s.warm_fits)
            e passed finite))
            (record {
              kept = record {
                sound = record {
                  subject = subst (λ (i : ℕ). i < length counts) (sym alike.subject) s.subject;
                  roomy = λ i l. subst (λ (n : ℕ). 12 * rows_of counts i ≤ n) (sym long_on) (s.roomy i l);
                  limit = s.limit;
                  omega_in = s.omega_in;
                  shape_in = s.shape_in;
                  warm_fits = subst FitsBoth (sym alike.warm) s.warm_fits;
                  pointed = Q.pointed_on own r eta sums effects_are fits_bound s.pointed;
                  count = suc s.count;
                  trust = trusted;
                  few = waits.fewer;
                  waiting = λ a. absurd (subst T (sym a ∙ alike.idle) tt);
                };
                subject = alike.subject;
                settings = Q.settings own r after alike.warm;
              };
              search = Q.advances own r eta sums effects_are ∙ ap (I.rules.advance (I.settings_of own r) (I.search_of r)) (sym given_is);
              tally = refl;
            })

      ends : Evaluates trial setup.output_budget words lists v.work
      ends = evaluates trial setup.output_budget words lists v.work
          (let l = length-take rows (drop r.first observations) in let m = (each r.subject s.subject).1 in omega (arith, l, m))

      numbered : {n : ℕ} → (n ≡ 8) ⊎ ((n ≡ 9) ⊎ (n ≡ 12)) → OfEvaluation n
      numbered (inl e) = (omega (arith, e), omega (arith, e))
      numbered (inr (inl e)) = (omega (arith, e), omega (arith, e))
      numbered (inr (inr e)) = (omega (arith, e), omega (arith, e))

      placed : {n : ℕ} → (n ≡ 10) ⊎ ((n ≡ 11) ⊎ (n ≡ 12)) → OfEvaluation n
      placed (inl e) = (omega (arith, e), omega (arith, e))
      placed (inr (inl e)) = (omega (arith, e), omega (arith, e))
      placed (inr (inr e)) = (omega (arith, e), omega (arith, e))

      by_end : (x : Evaluation) → finish ended.evaluation ≡ x → Goes (reply words) h (N.replied S counts own eta h ended.work x)
      by_end (Ok sums) d = goes sums d
      by_end (Err (E.Refused n)) d = unfold N.replied in over (reply words) h s t n (numbered (ends.numbers n d)) _
      by_end (Err (E.RefusedAt n i)) d = unfold N.replied in over (reply words) h s t n (placed (ends.places n i d).0) _

      pub answers : Goes (reply words) h (N.answered S setup counts observations words eta h)
      unfolding N.answered
      answers = by_end (finish ended.evaluation) refl

  pub enters : (c : Call) (h : Held S) → Stands h → Goes c h (N.enter S setup counts observations c h)
  unfolding N.enter N.enter_reply N.enter_failure
  enters (objective parameters) h s = at_objective (objective parameters) h s parameters
  enters (reply words) h s = when_awaited_lem (reply words) h s _ (λ t eta e. answers words h s t eta e)
  enters failure h s = when_awaited_lem failure h s _ (λ t eta e. over failure h s t 8 (omega arith, omega arith) _)
