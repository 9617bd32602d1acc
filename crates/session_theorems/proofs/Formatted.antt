-- A session's state stays of the format from call to call, so that its words tell it. Assumes nothing.
use Rattle.std.specs.Prelude.{Err, None, Ok, Option, Some}
use mathlib.Core.Path.{◌≡◌, refl, sym, ap, subst}
use mathlib.Core.Bool.{true, false}
use mathlib.Core.List.{List}
use mathlib.Core.Logic.{◌⊎◌, inl, inr}
use Prim.Native.Nat.{ℕ, ◌+◌, ◌≤◌}
use native.Mathlib.Omega.{arith}
use borrow.Author.Tests.{ltb-true}
use lib.ListN.{take, drop}
use lib.Ieee.{Float, binary64}
use lib.Ieee.Bits.{of_bits-fits}
use lib.Ieee.Fits.{add-fits, mul-fits}
use Rattle.float64.specs.Arithmetic.{word}
use Rattle.float64.specs.Answer.{Answer, given, refused}
use Rattle.float64.specs.Float64.{nonfinite}
use Rattle.float64.specs.Pick.{pick, both}
use Rattle.matrix.specs.declared.Pair.{Pair}
use Rattle.likelihood.specs.declared.population_focei.Observation.{Observation}
use Rattle.mode.specs.declared.population_focei.Stage.{Stage}
use Rattle.mode.specs.declared.population_focei.Stage.TheVariants.{Grid, Warm, Secant, Halving}
use Rattle.mode_2d.specs.declared.population_focei_2d.Stage2.{Stage2}
use Rattle.mode_2d.specs.declared.population_focei_2d.Stage2.TheVariants as S2
use Rattle.subject.specs.Subject.{individual, individual_values, Evaluation}
use Rattle.subject.specs.declared.Sums.{Sums}
use Rattle.work.specs.Work.{is_same_grid}
use Rattle.setup.specs.declared.Lent.{Lent}
use Rattle.setup.specs.declared.Setup.{Setup}
use Rattle.setup.specs.declared.Parameters.{Parameters}
use Rattle.search.specs.Subjects as B
use Rattle.search.specs.declared.Advanced.{Advanced}
use Rattle.search.specs.declared.Fit.{Fit}
use Rattle.search.specs.declared.Halted.{Halted}
use Rattle.search.specs.declared.Mode.{Mode}
use Rattle.search.specs.declared.Place.{Place}
use Rattle.search.specs.declared.Place.TheVariants as At
use Rattle.search.specs.declared.Progress.{Progress}
use Rattle.search.specs.declared.Step.{Step}
use Rattle.search.specs.declared.Tally.{Tally}
use Rattle.search.proofs.Fits.{fit_effects, fit_bound}
use Rattle.machine.specs.Machine.{Moved, on}
use Rattle.population.specs.Kept.{Recalled, words}
use Rattle.population.specs.Population.{rows_of, Worked, answered, at_point, next_subject, Ended, closing, at_mode, served_by, served, turned, Whole, moved, turn, receive, take as takes, Turned}
use Rattle.session.specs.Session as N
use Rattle.session.specs.Session.{Held, Call, objective, reply, failure, count_within, search_within}
use Rattle.session.specs.Calls.{state_of}
use Rattle.state_words.specs.SearchWords2 as words2
use Rattle.state_words.proofs.Back.{FitsPair, FitsAdditive, FitsState}
use Rattle.session_theorems.specs.Inner.{Inner}
use Rattle.session_theorems.proofs.FirstSearch.{first_one, first_two}
use Rattle.session_theorems.proofs.Accepted.{Accepts}
use Rattle.session_theorems.proofs.Always.{After}
use Rattle.session_theorems.proofs.Evaluated.{FitsSums, sums_fit}
use Rattle.session_theorems.proofs.Fitting.{Fits, TrialFits, start_fits, advance_fits}
use Rattle.session_theorems.proofs.Formats.{kept_sums, point1, point2, Fit1, start1, advance1, Fit2, start2, advance2}
use Rattle.session_theorems.proofs.Limits.{Numbered}
use Rattle.session_theorems.proofs.Placed.{Going}
use Rattle.session_theorems.proofs.Searches.{Suits}
use Rattle.session_theorems.proofs.Standing.{Standing}
use Rattle.session_theorems.proofs.Stores.{Trusted}
use Rattle.std.specs.declared.ops.ControlFlow.TheVariants.{Break, Continue}
use Rattle.subject.specs.declared.EvaluationError.TheVariants as E
use Rattle.setup.specs.declared.AdmissionError.TheVariants as A
use Rattle.setup.specs.Admission.{Admission}
use Rattle.mode.specs.declared.Request.{Request}
use Rattle.mode.specs.declared.Request.TheVariants as Wants

zero_fits : Fits (word 0)
zero_fits = of_bits-fits binary64 0

-- ---- where an objective stands
pub record FitsProgress (p : Progress) : Type 0 where
  pub individual : FitsPair p.individual
  pub ofv : Fits p.ofv
  pub squares : Fits p.eta_squares
  pub one : Fit1 (B.one_of p.search)
  pub two : Fit2 (B.two_of p.search)
  pub trial : TrialFits (B.two_of p.search)

pub begins : (effects subject first : ℕ) (warm : Pair) (ofv squares : Float) → Fits ofv → Fits squares → FitsProgress (B.begin_subject effects subject first warm ofv squares)
unfolding B.begin_subject
begins effects subject first warm ofv squares o q = record {
  individual = record { first = zero_fits; second = zero_fits };
  ofv = o;
  squares = q;
  one = first_one Fit1 effects start1;
  two = first_two Fit2 effects start2;
  trial = first_two TrialFits effects start_fits;
}

module _ (p : Progress) (s : FitsProgress p) where
  idles : FitsProgress (B.idle p)
  unfolding B.idle B.with_search
  idles = record { individual = s.individual; ofv = s.ofv; squares = s.squares; one = s.one; two = s.two; trial = s.trial }

  awaits : (v : Pair) → FitsPair v → FitsProgress (B.awaiting p v)
  unfolding B.awaiting
  awaits v f = record { individual = f; ofv = s.ofv; squares = s.squares; one = s.one; two = s.two; trial = s.trial }

  finishes : (ofv squares : Float) → Fits ofv → Fits squares → FitsProgress (B.finished p ofv squares)
  unfolding B.finished
  finishes ofv squares o q = record { individual = s.individual; ofv = o; squares = q; one = s.one; two = s.two; trial = s.trial }

  advances : (fit : Fit) (eta : Pair) (sums : Sums) → Fits fit.eta_bound → FitsPair eta → FitsSums sums → FitsProgress (B.advance_by fit p eta sums).progress
  unfolding B.advance_by B.advance1 B.advance2 B.with_search B.settings2
  advances fit eta sums bound e f =
      both (λ (a : Advanced). FitsProgress a.progress) _
      (record {
        individual = s.individual;
        ofv = s.ofv;
        squares = s.squares;
        one = start1;
        two = advance2 _ _ _ s.two (point2 eta sums e f);
        trial = advance_fits (B.settings2 fit p) bound _ _ s.trial;
      })
      (record { individual = s.individual; ofv = s.ofv; squares = s.squares; one = advance1 _ _ _ s.one (point1 fit eta sums e f); two = start2; trial = start_fits })

-- ---- individual values
unfoldable Valued : Answer Pair → Type 0
Valued (given v) = FitsPair v
Valued (refused n) = Unit

valued : (theta eta : Pair) (effects : ℕ) → Valued (individual_values theta eta effects)
unfolding Valued individual_values individual
valued theta eta effects = both Valued _ tt (both Valued _ (both Valued _ tt (record { first = mul-fits binary64 _ _; second = mul-fits binary64 _ _ }))
    (record { first = mul-fits binary64 _ _; second = zero_fits }))

-- ---- an objective's parameters
abbrev pub FitsSd : Option Float → Type 0
FitsSd None = Unit
FitsSd (Some additive) = Fits additive

pub record FitsParameters (p : Parameters) : Type 0 where
  pub theta : Fits p.theta.first
  pub theta_2 : Fits p.theta.second
  pub variance : Fits p.omega
  pub additive : FitsSd p.additive_sd

-- a session's state: the objective's parameters, and where it stands
pub record Formatted (h : Held words) : Type 0 where
  pub parameters : FitsParameters h.parameters
  pub progress : FitsProgress h.whole.progress

module _ (setup : Setup) (counts : List ℕ) (observations : List Observation) (I : Inner) (Q : Suits I setup.effects) (U : Trusted words setup.k) (bound : Fits setup.eta_bound)
    (h : Held words)
    (s : Standing words setup counts observations I Q U h) (g : Formatted h) where
  abbrev w : Whole words
  w = h.whole

  abbrev p : Progress
  p = w.progress

  abbrev fit : Fit
  fit = B.fit_of setup h.parameters

  abbrev rows : ℕ
  rows = rows_of counts p.subject

  limit : Fits fit.eta_bound
  limit = subst Fits (sym (fit_bound setup h.parameters)) bound

  -- the point that is asked for
  point_fits : (eta : Pair) → B.wanted_by fit p ≡ Wants.Point eta → FitsPair eta
  point_fits eta e = let f = Q.points fit p eta (fit_effects setup h.parameters) limit s.warm_fits s.pointed e in record { first = f.first; second = f.second }

  FitsTurned : Turned → Type 0
  FitsTurned (Continue q) = FitsProgress q
  FitsTurned (Break x) = FitsProgress x.progress

  closes : (t : Turned) (work warm results : List ℕ) → FitsTurned t → After Formatted (N.held_by words h.parameters (moved words w.tally w.kept work warm results t))
  unfolding After N.held_by moved FitsTurned
  closes (Continue q) work warm results f = record { parameters = g.parameters; progress = f }
  closes (Break x) work warm results f = record { parameters = g.parameters; progress = f }

  -- ---- a point
  refuses : (tally : Tally) (number : ℕ) (place : Place) → FitsProgress (B.refused_by p tally (B.refusal number place)).progress
  unfolding B.refused_by
  refuses tally number place = idles p g.progress

  asks : (tally : Tally) (eta : Pair) (a : Answer Pair) → Valued a → FitsProgress (B.ask_for p tally eta a).progress
  unfolding B.ask_for Valued
  asks tally eta (given v) f = awaits p g.progress v f
  asks tally eta (refused n) f = refuses tally n _

  asked : (eta : Pair) → FitsProgress (B.ask fit p w.tally eta).progress
  unfolding B.ask
  asked eta = both (λ (x : Halted). FitsProgress x.progress) _ (asks _ eta _ (valued _ eta _)) (refuses w.tally 6 _)

  by_recall : (eta : Pair) → FitsPair eta → (o : Option Recalled) → FitsTurned (answered fit rows p w.tally eta w.work o).value
  unfolding answered takes FitsTurned
  by_recall eta e (Some r) = advances p g.progress fit eta (B.sums_of r.terms) limit e (kept_sums r.terms)
  by_recall eta e None = asked eta

  -- ---- a mode
  objective_ends : (ofv squares : Float) → Fits ofv → Fits squares → FitsProgress (B.objective_of p w.tally ofv squares).progress
  unfolding B.objective_of
  objective_ends ofv squares o q = both (λ (x : Halted). FitsProgress x.progress) (nonfinite ofv) (refuses w.tally 18 _) (finishes p g.progress ofv squares o q)

  next_ends : (m : Mode) (warm : List ℕ) → FitsTurned (next_subject fit counts p w.tally m rows warm w.work).value
  unfolding next_subject FitsTurned
  next_ends m warm = both (λ (x : Worked Turned). FitsTurned x.value) _ (begins _ _ _ _ _ _ (add-fits binary64 _ _) (add-fits binary64 _ _))
      (objective_ends _ _ (add-fits binary64 _ _) (add-fits binary64 _ _))

  by_closed : (c : Option Mode) → FitsTurned (closing fit counts p w.tally rows w.work w.warm w.results c).turned
  unfolding closing FitsTurned
  by_closed None = refuses w.tally 16 _
  by_closed (Some m) = both (λ (e : Ended). FitsTurned e.turned) (is_same_grid w.work rows) (next_ends m _) (refuses w.tally 17 _)

  by_wanted : (v : Request Pair) → B.wanted_by fit p ≡ v → FitsTurned (served_by words fit counts p w.tally w.kept w.work w.warm w.results v).turned
  unfolding served_by at_mode at_point FitsTurned
  by_wanted (Wants.Point eta) e = by_recall eta (point_fits eta e) _
  by_wanted Wants.Mode e = by_closed (B.closed_by fit p rows)
  by_wanted (Wants.Refused n) e = refuses w.tally n _

  pub turns_fit : After Formatted (N.turn_held words setup counts h)
  unfolding N.turn_held turn turned served
  turns_fit = closes _ _ _ _ (by_wanted (B.wanted_by fit p) refl)

  -- ---- entries
  unaltered : (number : ℕ) (place : Place) → After Formatted (N.unaltered words number place h)
  unfolding After
  unaltered number place = g

  over : (number : ℕ) (place : Place) → After Formatted (N.over words number place h)
  unfolding After N.over
  over number place = record { parameters = g.parameters; progress = idles p g.progress }

  when_admitted_lem : (go : Moved (Held words) Step) (a : Admission) → After Formatted go → After Formatted (N.when_admitted words h go a)
  unfolding N.when_admitted
  when_admitted_lem go (Ok tt) f = f
  when_admitted_lem go (Err (A.Refused n)) f = unaltered n _
  when_admitted_lem go (Err (A.Unsound place)) f = unaltered 4 _

  begun_fits : (parameters : Parameters) → FitsParameters parameters → After {Answer = Step} Formatted (on (N.begun words setup counts parameters w))
  unfolding N.begun After
  begun_fits parameters f = record { parameters = f; progress = begins _ _ _ _ _ _ zero_fits zero_fits }

  at_wanted_lem : (go : Pair → Moved (Held words) Step) (v : Request Pair) → ((eta : Pair) → v ≡ Wants.Point eta → After Formatted (go eta)) → (n : ℕ) → After Formatted
      (N.at_wanted words setup counts n (N.all_checked setup counts observations) h go v)
  unfolding N.at_wanted
  at_wanted_lem go (Wants.Point eta) f n = when_admitted_lem (go eta) _ (f eta refl)
  at_wanted_lem go Wants.Mode f n = unaltered 19 _
  at_wanted_lem go (Wants.Refused number) f n = unaltered 19 _

  when_awaited_lem : (go : Pair → Moved (Held words) Step) → ((eta : Pair) → B.wanted_by fit p ≡ Wants.Point eta → After Formatted (go eta)) → (n : ℕ) → After Formatted
      (N.when_awaited words setup counts n (N.all_checked setup counts observations) h go)
  unfolding N.when_awaited
  when_awaited_lem go f n = both (After Formatted) _ (both (After Formatted) _ (at_wanted_lem go (B.wanted_by fit p) f n) (unaltered 19 _)) (unaltered 19 _)

  replied : (eta : Pair) → FitsPair eta → (work : List ℕ) (e : Evaluation) → ((sums : Sums) → e ≡ Ok sums → FitsSums sums) → After Formatted (N.replied words counts fit eta h work e)
  unfolding N.replied receive takes After
  replied eta f work (Ok sums) k = record { parameters = g.parameters; progress = advances p g.progress fit eta sums limit f (k sums refl) }
  replied eta f work (Err (E.Refused n)) k = over n _
  replied eta f work (Err (E.RefusedAt n i)) k = over n _

  answered_fits : (said : List ℕ) (eta : Pair) → B.wanted_by fit p ≡ Wants.Point eta → After Formatted (N.answered words setup counts observations said eta h)
  unfolding N.answered
  answered_fits said eta e =
      replied eta (point_fits eta e) _ _ (sums_fit (N.trial_of words setup counts fit p) said setup.width setup.effects setup.output_budget
      (take rows (drop p.first observations)) w.work)

  unfoldable pub FitsCall : Call → Type 0
  FitsCall (objective parameters) = FitsParameters parameters
  FitsCall (reply said) = Unit
  FitsCall failure = Unit

  pub enters_fit : (c : Call) → FitsCall c → After Formatted (N.enter words setup counts observations c h)
  unfolding N.enter N.enter_objective N.enter_reply N.enter_failure FitsCall
  enters_fit (objective parameters) f = both (After Formatted) _ (unaltered 19 At.Nowhere) (both (After Formatted) _ (when_admitted_lem _ _ (begun_fits parameters f)) (unaltered 19 At.Nowhere))
  enters_fit (reply said) f = when_awaited_lem _ (answered_fits said) _
  enters_fit failure f = when_awaited_lem _ (λ eta e. over 8 _) _

pub sets_fit : (setup : Setup) (counts : List ℕ) (h : Held words) → Formatted h → (warm : List ℕ) → Formatted (N.set_warm words setup counts warm h)
unfolding N.set_warm
sets_fit setup counts h g warm = both Formatted _ (record { parameters = g.parameters; progress = g.progress }) g

-- ---- the words of such a state tell it
count_few : (st : Stage) (n : ℕ) → count_within st n ≡ true → n ≤ 4294967295
unfolding count_within
count_few Grid n e = let l = ltb-true n 18 e in omega (arith, l)
count_few Warm n e = let l = ltb-true n 1 e in omega (arith, l)
count_few Secant n e = let l = ltb-true n 16 e in omega (arith, l)
count_few Halving n e = let l = ltb-true n 49 e in omega (arith, l)

halted_known : (k : ℕ) → (k ≡ 13) ⊎ ((k ≡ 14) ⊎ (k ≡ 16)) → words2.is_no_stage (4 + k) ≡ false
unfolding words2.is_no_stage pick
halted_known k (inl e) = ap (λ (n : ℕ). words2.is_no_stage (4 + n)) e
halted_known k (inr (inl e)) = ap (λ (n : ℕ). words2.is_no_stage (4 + n)) e
halted_known k (inr (inr e)) = ap (λ (n : ℕ). words2.is_no_stage (4 + n)) e

stage_known : (st : Stage2) → Numbered st → words2.is_no_stage (words2.stage_word st) ≡ false
unfolding words2.is_no_stage words2.stage_word Numbered pick
stage_known S2.Zero n = refl
stage_known S2.Start n = refl
stage_known S2.Trial n = refl
stage_known S2.Found n = refl
stage_known (S2.Halted k) n = halted_known k n

additive_fits : (a : Option Float) → FitsSd a → FitsAdditive a
unfolding FitsAdditive
additive_fits None f = tt
additive_fits (Some x) f = f

pub state_fits : (setup : Setup) (counts : List ℕ) (observations : List Observation) (lent : Lent) (a : Accepts setup counts lent) (h : Held words) → Going setup counts observations lent a h
    → FitsPair h.whole.progress.warm
    → Formatted h → FitsState (state_of h)
unfolding search_within
state_fits setup counts observations lent a h place warm g =
    let s = g.progress in
    let one = place.place.one in
    let two = place.place.two in
    record {
      theta = record { first = g.parameters.theta; second = g.parameters.theta_2 };
      omega_fits = g.parameters.variance;
      additive = additive_fits _ g.parameters.additive;
      individual = s.individual;
      warm = warm;
      ofv = s.ofv;
      squares = s.squares;
      one = record { count = count_few _ _ one; first = s.one.first; latest = s.one.latest; left = s.one.left; right = s.one.right; best = s.one.best };
      two = record {
        stage = stage_known _ two.number;
        seed = let l = two.seed in omega (arith, l);
        round = let l = two.round in omega (arith, l);
        reduction = let l = two.reduction in omega (arith, l);
        current = s.two.current;
        trial = record { first = s.trial.first; second = s.trial.second };
        decrease = s.two.decrease;
        best = s.two.best;
      };
    }
