-- A question has the individual values of the objective's own theta, and no call but an awaited reply changes what is kept. Assumes nothing.
use Rattle.std.specs.Prelude.{Err, None, Ok, Option, Some}
use mathlib.Core.Path.{◌≡◌, refl, sym, subst, ◌∙◌}
use mathlib.Core.Bool.{false}
use mathlib.Core.List.{List}
use Prim.Native.Nat.{ℕ, zero, suc}
use native.Mathlib.Omega.{arith}
use borrow.Author.Tests.{eq-eqb}
use lib.Dec.{T, eqb}
use lib.Ieee.{Float}
use Rattle.float64.specs.Answer.{Answer, given, refused}
use Rattle.float64.specs.Arithmetic.{◌*ᶠ◌, word}
use Rattle.float64.specs.Pick.{both, cases}
use Rattle.libm.specs.Exp.{exp}
use Rattle.matrix.specs.Matrix.{Inverse, some as inverted, none as singular}
use Rattle.matrix.specs.declared.Pair.{Pair}
use Rattle.likelihood.specs.declared.population_focei.Observation.{Observation}
use Rattle.cache.specs.Cache.{Cache}
use Rattle.subject.specs.Subject.{individual, individual_values}
use Rattle.work.specs.Work.{is_same_grid}
use Rattle.setup.specs.Admission.{with_parameters, Admission}
use Rattle.setup.specs.declared.Setup.{Setup}
use Rattle.setup.specs.declared.Parameters.{Parameters}
use Rattle.search.specs.Subjects as B
use Rattle.search.specs.declared.Fit.{Fit}
use Rattle.search.specs.declared.Halted.{Halted}
use Rattle.search.specs.declared.Place.{Place}
use Rattle.search.specs.declared.Place.TheVariants as At
use Rattle.search.specs.declared.Progress.{Progress}
use Rattle.search.specs.declared.Step.{Step}
use Rattle.search.specs.declared.Step.TheVariants as Answers
use Rattle.search.specs.declared.Tally.{Tally}
use Rattle.search.proofs.Fits.{fit_effects}
use Rattle.machine.specs.Machine.{Moved, on, halt, Ran, onward, loop, call}
use Rattle.population.specs.Kept.{Recalled, words}
use Rattle.population.specs.Population.{rows_of, Worked, answered, at_point, next_subject, Ended, closing, at_mode, served_by, served, turned, Whole, moved, turn, spent, Turned}
use Rattle.session.specs.Session as N
use Rattle.session.specs.Session.{Held, Call, objective, reply, failure}
use Rattle.session_theorems.specs.Evaluations.{M}
use Rattle.std.specs.declared.ops.ControlFlow.TheVariants.{Break, Continue}
use Rattle.search.specs.declared.Mode.{Mode}
use Rattle.setup.specs.declared.AdmissionError.TheVariants as A
use Rattle.mode.specs.declared.Request.{Request}
use Rattle.mode.specs.declared.Request.TheVariants as Wants

-- ---- an objective's fit has its own theta and deviation
pub record Given (parameters : Parameters) (fit : Fit) : Type 0 where
  pub theta : fit.theta ≡ parameters.theta
  pub additive : fit.additive_sd ≡ parameters.additive_sd

given_with : (setup : Setup) (parameters : Parameters) (i : Inverse) → Given parameters (B.fit_by (with_parameters setup parameters) parameters.theta i)
unfolding B.fit_by B.fit_with with_parameters
given_with setup parameters (inverted m det) = record { theta = refl; additive = refl }
given_with setup parameters singular = record { theta = refl; additive = refl }

pub fit_given : (setup : Setup) (parameters : Parameters) → Given parameters (B.fit_of setup parameters)
unfolding B.fit_of B.fit2 B.fit_with with_parameters
fit_given setup parameters = both (Given parameters) _ (given_with setup parameters _) (record { theta = refl; additive = refl })

-- ---- individual values
pub record Values (theta eta : Pair) (effects : ℕ) (v : Pair) : Type 0 where
  pub first : v.first ≡ theta.first *ᶠ exp eta.first
  pub second : effects ≡ 2 → v.second ≡ theta.second *ᶠ exp eta.second

values_are : (theta eta : Pair) (effects : ℕ) (v : Pair) → individual_values theta eta effects ≡ given v → Values theta eta effects v
unfolding individual_values individual
values_are theta eta effects v = both Only _ never (cases Only (eqb effects 2) (λ t. both Only _ never two) one)
  where
    Only : Answer Pair → Type 0
    Only a = a ≡ given v → Values theta eta effects v

    never : Only (refused 7)
    never e = let z : ◌≡◌ {A = ℕ} 0 1 = cc in absurd (omega arith)

    two : Only (given (record { first = theta.first *ᶠ exp eta.first; second = theta.second *ᶠ exp eta.second }))
    two e = let q : record { first = theta.first *ᶠ exp eta.first; second = theta.second *ᶠ exp eta.second } ≡ v = cc in
        subst (Values theta eta effects) q (record { first = refl; second = λ t. refl })

    one : eqb effects 2 ≡ false → Only (given (record { first = theta.first *ᶠ exp eta.first; second = word 0 }))
    one f e = let q : record { first = theta.first *ᶠ exp eta.first; second = word 0 } ≡ v = cc in
        subst (Values theta eta effects) q (record { first = refl; second = λ t. absurd (subst T (sym (eq-eqb effects 2 t) ∙ f) tt) })

module _ (setup : Setup) (counts : List ℕ) (observations : List Observation) where
  -- an answer that asks has the values of the state's own theta
  unfoldable pub Good : Held words → Step → Type 0
  Good t (Answers.Asked eta v) = Values t.parameters.theta eta setup.effects v
  Good t (Answers.Finished ofv) = Unit
  Good t (Answers.Refused why) = Unit

  -- the kept evaluations are c, and the answer is good
  unfoldable pub Leaves : Cache → Moved (Held words) Step → Type 0
  Leaves c (on t) = t.whole.kept ≡ c
  Leaves c (halt a t) = (t.whole.kept ≡ c) × Good t a

  unfoldable pub Left : Cache → Ran (Held words) Step → Type 0
  Left c r = (r.state.whole.kept ≡ c) × Good r.state r.answer

  -- ---- a turn
  module _ (h : Held words) where
    abbrev w : Whole words
    w = h.whole

    abbrev p : Progress
    p = w.progress

    abbrev fit : Fit
    fit = B.fit_of setup h.parameters

    abbrev rows : ℕ
    rows = rows_of counts p.subject

    -- what a halt answers
    Says : Turned → Type 0
    Says (Continue q) = Unit
    Says (Break x) = Good h x.step

    of_parameters : (a : Step) (v : Whole words) → Good h a → Good (N.held words h.parameters v) a
    unfolding Good
    of_parameters (Answers.Asked eta u) v g = g
    of_parameters (Answers.Finished ofv) v g = tt
    of_parameters (Answers.Refused why) v g = tt

    closes : (t : Turned) (work warm results : List ℕ) → Says t → Leaves w.kept (N.held_by words h.parameters (moved words w.tally w.kept work warm results t))
    unfolding Leaves N.held_by moved Says
    closes (Continue q) work warm results f = refl
    closes (Break x) work warm results f = (refl, of_parameters x.step _ f)

    refuses : (tally : Tally) (number : ℕ) (place : Place) → Good h (B.refused_by p tally (B.refusal number place)).step
    unfolding Good B.refused_by
    refuses tally number place = tt

    asks : (tally : Tally) (eta : Pair) (a : Answer Pair) → individual_values fit.theta eta fit.effects ≡ a → Good h (B.ask_for p tally eta a).step
    unfolding Good B.ask_for
    asks tally eta (given v) e =
        subst (λ (n : ℕ). Values h.parameters.theta eta n v) (fit_effects setup h.parameters)
        (subst (λ (x : Pair). Values x eta fit.effects v) (fit_given setup h.parameters).theta (values_are fit.theta eta fit.effects v e))
    asks tally eta (refused n) e = refuses tally n _

    by_recall : (eta : Pair) (o : Option Recalled) → Says (answered fit rows p w.tally eta w.work o).value
    unfolding Says answered
    by_recall eta (Some r) = tt
    by_recall eta None = unfold B.ask in both (λ (x : Halted). Good h x.step) _ (asks _ eta _ refl) (refuses w.tally 6 _)

    ends : (ofv squares : Float) → Good h (B.objective_of p w.tally ofv squares).step
    unfolding B.objective_of Good B.refused_by
    ends ofv squares = both (λ (x : Halted). Good h x.step) _ tt tt

    by_closed : (c : Option Mode) → Says (closing fit counts p w.tally rows w.work w.warm w.results c).turned
    unfolding closing next_subject Says
    by_closed None = refuses w.tally 16 _
    by_closed (Some m) = both (λ (e : Ended). Says e.turned) (is_same_grid w.work rows) (both (λ (x : Worked Turned). Says x.value) _ tt (ends _ _)) (refuses w.tally 17 _)

    by_wanted : (v : Request Pair) → Says (served_by words fit counts p w.tally w.kept w.work w.warm w.results v).turned
    unfolding served_by at_mode at_point Says
    by_wanted (Wants.Point eta) = by_recall eta _
    by_wanted Wants.Mode = by_closed (B.closed_by fit p rows)
    by_wanted (Wants.Refused n) = refuses w.tally n _

    turns : Leaves w.kept (N.turn_held words setup counts h)
    unfolding N.turn_held turn turned served
    turns = closes _ _ _ _ (by_wanted (B.wanted_by fit p))

  -- ---- the loop, and a call from its entry on
  after : (c : Cache) (m : Moved (Held words) Step) (k : Held words → Ran (Held words) Step) → ((t : Held words) → Left t.whole.kept (k t)) → Leaves c m → Left c (onward m k)
  unfolding onward Leaves Left
  after c (on t) k f e = let r = f t in (r.0 ∙ e, r.1)
  after c (halt a t) k f e = e

  loops : (n : ℕ) (h : Held words) → Left h.whole.kept (loop (N.turn_held words setup counts) spent n h)
  unfolding loop Left Good
  loops zero h = (refl, tt)
  loops (suc n) h = after h.whole.kept (N.turn_held words setup counts h) _ (loops n) (turns h)

  -- ---- entries that keep nothing
  module _ (h : Held words) where
    same : (number : ℕ) (place : Place) → Leaves h.whole.kept (N.unaltered words number place h)
    unfolding Leaves Good
    same number place = (refl, tt)

    pub over : (number : ℕ) (place : Place) → Leaves h.whole.kept (N.over words number place h)
    unfolding Leaves Good N.over
    over number place = (refl, tt)

    when_admitted_lem : (go : Moved (Held words) Step) (a : Admission) → Leaves h.whole.kept go → Leaves h.whole.kept (N.when_admitted words h go a)
    unfolding N.when_admitted
    when_admitted_lem go (Ok tt) f = f
    when_admitted_lem go (Err (A.Refused n)) f = same n _
    when_admitted_lem go (Err (A.Unsound place)) f = same 4 _

    begun : (parameters : Parameters) → Leaves h.whole.kept (on (N.begun words setup counts parameters h.whole))
    unfolding Leaves N.begun
    begun parameters = refl

    pub objectives : (parameters : Parameters) → Leaves h.whole.kept (N.enter words setup counts observations (objective parameters) h)
    unfolding N.enter N.enter_objective
    objectives parameters = both (Leaves h.whole.kept) _ (same 19 At.Nowhere) (both (Leaves h.whole.kept) _ (when_admitted_lem _ _ (begun parameters)) (same 19 At.Nowhere))

    at_wanted_lem : (n : ℕ) (go : Pair → Moved (Held words) Step) → ((eta : Pair) → Leaves h.whole.kept (go eta)) → (v : Request Pair)
        → Leaves h.whole.kept (N.at_wanted words setup counts n (N.all_checked setup counts observations) h go v)
    unfolding N.at_wanted
    at_wanted_lem n go f (Wants.Point eta) = when_admitted_lem (go eta) _ (f eta)
    at_wanted_lem n go f Wants.Mode = same 19 _
    at_wanted_lem n go f (Wants.Refused number) = same 19 _

    pub failures : Leaves h.whole.kept (N.enter words setup counts observations failure h)
    unfolding N.enter N.enter_failure N.when_awaited
    failures = both (Leaves h.whole.kept) _ (both (Leaves h.whole.kept) _ (at_wanted_lem _ _ (λ eta. over 8 _) _) (same 19 _)) (same 19 _)

    pub unawaited : (said : List ℕ) → h.whole.progress.awaits ≡ false → Leaves h.whole.kept (N.enter words setup counts observations (reply said) h)
    unfolding N.enter N.enter_reply N.when_awaited
    unawaited said f = cases (Leaves h.whole.kept) h.whole.progress.awaits (λ t. absurd (subst T (sym t ∙ f) tt)) (λ e. same 19 _)

  pub called : (c : Call) (h : Held words) (k : Cache) → Leaves k (N.enter words setup counts observations c h) → Left k (call (M setup counts observations) c h)
  unfolding call
  called c h k e = after k (N.enter words setup counts observations c h) _ (λ t. loops N.fuel t) e
