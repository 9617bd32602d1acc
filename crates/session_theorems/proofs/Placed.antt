-- Where a session stands keeps to what is lent: its subject, its first observation and its searches stay in their limits, the lent words as many, and the tally's kept rows those of the kept
-- evaluations. Every turn, entry and setting of warm starts keeps that, and no turn answers with 19. Assumes nothing.
use Rattle.std.specs.Prelude.{Err, None, Ok, Option, Some}
use mathlib.Core.Path.{◌≡◌, refl, sym, ap, ◌∙◌}
use mathlib.Core.List.{List, [], ◌∷◌}
use mathlib.Core.Logic.{⊎_elim}
use Prim.Native.Nat.{ℕ, zero, suc, ◌+◌, ◌-◌, ◌≤◌, ◌<◌}
use native.Mathlib.Nat.{not-suc-le-zero, le_of_suc-le-suc, mod-eq_of_lt}
use native.Mathlib.Omega.{arith}
use borrow.Author.Tests.{ltb-true, ltb-false, eqb-true}
use lib.Dec.{ltb, eqb}
use lib.ListN.{get_or, length, take, drop}
use lib.Ieee.{Float}
use Rattle.float64.specs.Answer.{Answer, given, refused}
use Rattle.float64.specs.Float64.{nonfinite}
use Rattle.float64.specs.Pick.{both, cases}
use Rattle.matrix.specs.declared.Pair.{Pair}
use Rattle.likelihood.specs.declared.population_focei.Observation.{Observation}
use Rattle.subject.specs.Subject.{individual_values, Evaluation}
use Rattle.subject.specs.declared.Sums.{Sums}
use Rattle.words.specs.Words.{zeros}
use Rattle.work.specs.Work.{most_rows, block, is_same_grid}
use Rattle.setup.specs.Admission.{larger, count_from, count_observations, within, Admission}
use Rattle.setup.specs.declared.Setup.{Setup}
use Rattle.setup.specs.declared.Lent.{Lent}
use Rattle.setup.specs.declared.Parameters.{Parameters}
use Rattle.setup.proofs.Bounds.{not_first}
use Rattle.search.specs.Subjects as B
use Rattle.search.specs.declared.Advanced.{Advanced}
use Rattle.search.specs.declared.Fit.{Fit}
use Rattle.search.specs.declared.Halted.{Halted}
use Rattle.search.specs.declared.Mode.{Mode}
use Rattle.search.specs.declared.Place.{Place}
use Rattle.search.specs.declared.Place.TheVariants as At
use Rattle.search.specs.declared.Progress.{Progress}
use Rattle.search.specs.declared.Step.{Step}
use Rattle.search.specs.declared.Step.TheVariants as Answers
use Rattle.search.specs.declared.Tally.{Tally}
use Rattle.machine.specs.Machine.{Moved}
use Rattle.population.specs.Kept.{Recalled, words, order_rows}
use Rattle.population.specs.Population.{rows_of, take as takes, answered, at_point, Worked, next_subject, raised, Ended, ended, closing, at_mode, served_by, served, turned, Whole, whole_of, moved, turn, Turned}
use Rattle.population.specs.Population.{receive}
use Rattle.session.specs.Session as N
use Rattle.session.specs.Session.{Held, held, Call, objective, reply, failure}
use Rattle.session_theorems.specs.Shown.{before}
use Rattle.session_theorems.proofs.FirstSearch.{first_one, first_two}
use Rattle.session_theorems.proofs.Accepted.{Accepts, each_count, same_counts}
use Rattle.session_theorems.proofs.Always.{After, Says}
use Rattle.session_theorems.proofs.Evaluated.{work_length}
use Rattle.session_theorems.proofs.Lengths.{AsLong, zeros_length, move_rows_length, recalled_length, warm_stored_length, results_length}
use Rattle.session_theorems.proofs.Limits.{Within, start_within, advance_within, Within2, start_within2, advance_within2, Other, wanted_other}
use Rattle.session_theorems.proofs.Plain.{split, Not19, before_19}
use Rattle.std.specs.declared.ops.ControlFlow.TheVariants.{Break, Continue}
use Rattle.subject.specs.declared.EvaluationError.TheVariants as E
use Rattle.setup.specs.declared.AdmissionError.TheVariants as A
use Rattle.subject.specs.Observations.{Check}
use Rattle.mode.specs.declared.Request.{Request}
use Rattle.mode.specs.declared.Request.TheVariants as Wants

-- ---- the observations of the subjects before one
before_rest : (count : ℕ) (rest : List ℕ) (i : ℕ) → before (count ∷ rest) (suc i) ≡ count + before rest i
unfolding before
before_rest count rest zero = omega arith
before_rest count rest (suc i) = let e = before_rest count rest i in omega (arith, e)

counted_rest : (count : ℕ) (rest : List ℕ) (total largest : ℕ) {t l : ℕ} → count_from total largest (count ∷ rest) ≡ within t l → count_from (total + count)
    (larger largest count) rest ≡ within t l
unfolding count_from
counted_rest count rest total largest {t} {l} e =
    let never : None ≡ within t l → ⊥ = λ q. let z : ◌≡◌ {A = ℕ} 0 1 = cc in omega arith in
    (not_first (ltb (most_rows - total) count) _ never (not_first (eqb count 0) _ never e).1).1

-- are no more than there are in all
pub before_most : (counts : List ℕ) (i total largest : ℕ) {t l : ℕ} → count_from total largest counts ≡ within t l → i ≤ length counts → total + before counts i ≤ t
unfolding count_from before
before_most [] zero total largest {t} {l} e m = let q : total ≡ t = (same_counts _ _ _ _ e).0 in omega arith
before_most [] (suc i) total largest e m = absurd (not-suc-le-zero m)
before_most (count ∷ rest) zero total largest e m = let f = before_most rest zero (total + count) _ (counted_rest count rest total largest e) (omega arith) in omega (arith, f)
before_most (count ∷ rest) (suc i) total largest e m =
    let f = before_most rest i (total + count) _ (counted_rest count rest total largest e) (le_of_suc-le-suc m) in
    omega (arith, f, before_rest count rest i)

rows_most : (counts : List ℕ) (i : ℕ) → rows_of counts i ≤ get_or counts i 0
unfolding rows_of
rows_most counts i = cases (λ (n : ℕ). n ≤ get_or counts i 0) (ltb (get_or counts i 0) most_rows) (λ t. omega arith) (λ t. ltb-false _ _ t)

pub rows_exact : {setup : Setup} {counts : List ℕ} {lent : Lent} → Accepts setup counts lent → (i : ℕ) → i < length counts → rows_of counts i ≡ get_or counts i 0
unfolding rows_of count_observations
rows_exact {setup} {counts} a i l =
    let m : get_or counts i 0 ≤ a.largest = ((each_count counts 0 0 a.adds).1 i l).1 in
    cases (λ (n : ℕ). n ≡ get_or counts i 0) (ltb (get_or counts i 0) most_rows) (λ t. refl) (λ t. let b : most_rows ≤ get_or counts i 0 = ltb-false _ _ t in omega (arith, b, m, a.small))

-- a subject's observations come before those of the later ones
pub before_later : (counts : List ℕ) (i k : ℕ) → i < k → before counts i + get_or counts i 0 ≤ before counts k
unfolding before
before_later counts i zero l = absurd (omega (arith, l))
before_later counts i (suc k) l =
    ⊎_elim (λ (m : i < k). let h = before_later counts i k m in omega (arith, h)) (λ (m : k ≤ i). let e : i ≡ k = omega (arith, l, m) in rw e (omega arith)) (split i k)

-- and all are lent
pub all_before : {setup : Setup} {counts : List ℕ} {lent : Lent} → Accepts setup counts lent → (i : ℕ) → i < length counts → before counts i + get_or counts i 0 ≤ lent.observations
unfolding before count_observations
all_before {setup} {counts} a i l = let m = before_most counts (suc i) 0 0 a.adds l in omega (arith, m)

-- the next subject's first observation comes after this one's
pub first_exact : {setup : Setup} {counts : List ℕ} {lent : Lent} → Accepts setup counts lent → (i : ℕ) → i < length counts → raised (before counts i) (rows_of counts i) ≡ before counts (suc i)
unfolding before count_observations
first_exact {setup} {counts} {lent} a i l =
    let m = before_most counts (suc i) 0 0 a.adds l in
    let r = rows_exact a i l in
    ap (λ (n : ℕ). raised (before counts i) n) r ∙ mod-eq_of_lt (omega (arith, m, a.all))

-- ---- refusals with other numbers than 19
unfoldable pub Other19 : Step → Type 0
Other19 (Answers.Asked eta individual) = Unit
Other19 (Answers.Finished ofv) = Unit
Other19 (Answers.Refused why) = Not19 why.number

OtherIf : Answer Pair → Type 0
OtherIf (given v) = Unit
OtherIf (refused n) = Not19 n

values_other : (theta eta : Pair) (effects : ℕ) → OtherIf (individual_values theta eta effects)
unfolding OtherIf individual_values
values_other theta eta effects = both OtherIf _ (before_19 (omega arith)) (both OtherIf _ (both OtherIf _ (before_19 (omega arith)) tt) tt)

-- ---- a search's own place
module _ (counts : List ℕ) where
  pub record Placed (p : Progress) : Type 0 where
    pub subject : p.subject < length counts
    pub first : p.first ≡ before counts p.subject
    pub one : Within (B.one_of p.search)
    pub two : Within2 (B.two_of p.search)

  begins : (effects subject first : ℕ) (warm : Pair) (ofv squares : Float) → subject < length counts → first ≡ before counts subject → Placed (B.begin_subject effects subject first warm ofv squares)
  unfolding B.begin_subject
  begins effects subject first warm ofv squares l m = record { subject = l; first = m; one = first_one Within effects start_within; two = first_two Within2 effects start_within2 }

  module _ (p : Progress) (s : Placed p) where
    idles : Placed (B.idle p)
    unfolding B.idle B.with_search
    idles = record { subject = s.subject; first = s.first; one = s.one; two = s.two }

    awaits : (individual : Pair) → Placed (B.awaiting p individual)
    unfolding B.awaiting
    awaits individual = record { subject = s.subject; first = s.first; one = s.one; two = s.two }

    finishes : (ofv squares : Float) → Placed (B.finished p ofv squares)
    unfolding B.finished
    finishes ofv squares = record { subject = s.subject; first = s.first; one = s.one; two = s.two }

    advances : (fit : Fit) (eta : Pair) (sums : Sums) → Placed (B.advance_by fit p eta sums).progress
    unfolding B.advance_by B.advance1 B.advance2 B.with_search
    advances fit eta sums =
        both (λ (a : Advanced). Placed a.progress) _ (record { subject = s.subject; first = s.first; one = start_within; two = advance_within2 _ _ _ s.two })
        (record { subject = s.subject; first = s.first; one = advance_within _ _ _ s.one; two = start_within2 })

-- ---- a session's place
module _ (setup : Setup) (counts : List ℕ) (observations : List Observation) (lent : Lent) (accepted : Accepts setup counts lent) where
  pub record Going (h : Held words) : Type 0 where
    pub place : Placed counts h.whole.progress
    pub work : length h.whole.work ≡ lent.work
    pub warm : length h.whole.warm ≡ lent.warm
    pub results : length h.whole.results ≡ lent.results
    pub rows : h.whole.tally.cached_rows.0 ≡ words.rows h.whole.kept

  module _ (h : Held words) (g : Going h) where
    abbrev w : Whole words
    w = h.whole

    abbrev p : Progress
    p = w.progress

    abbrev fit : Fit
    fit = B.fit_of setup h.parameters

    abbrev rows : ℕ
    rows = rows_of counts p.subject

    -- ---- what a request leaves
    record Halts (x : Halted) : Type 0 where
      place : Placed counts x.progress
      same : x.tally.cached_rows ≡ w.tally.cached_rows
      other : Other19 x.step

    PlacedTurned : Turned → Type 0
    PlacedTurned (Continue q) = Placed counts q
    PlacedTurned (Break x) = Halts x

    record Ends (e : Ended) : Type 0 where
      turned : PlacedTurned e.turned
      work : AsLong w.work e.work
      warm : AsLong w.warm e.warm
      results : AsLong w.results e.results

    goes : (q : Progress) (tally : Tally) (work warm results : List ℕ) → Placed counts q → tally.cached_rows ≡ w.tally.cached_rows → AsLong w.work work → AsLong w.warm warm
        → AsLong w.results results
        → Going (held words h.parameters (whole_of words q tally w.kept work warm results))
    goes q tally work warm results place same a b c = record { place = place; work = a ∙ g.work; warm = b ∙ g.warm; results = c ∙ g.results; rows = ap (λ x. x.0) same ∙ g.rows }

    closes : (t : Turned) (work warm results : List ℕ) → PlacedTurned t → AsLong w.work work → AsLong w.warm warm → AsLong w.results results
        → After Going (N.held_by words h.parameters (moved words w.tally w.kept work warm results t))
    unfolding After N.held_by moved PlacedTurned
    closes (Continue q) work warm results f a b c = goes q w.tally work warm results f refl a b c
    closes (Break x) work warm results f a b c = goes x.progress x.tally work warm results f.place f.same a b c

    closes_says : (t : Turned) (work warm results : List ℕ) → PlacedTurned t → Says Other19 (N.held_by words h.parameters (moved words w.tally w.kept work warm results t))
    unfolding Says N.held_by moved PlacedTurned
    closes_says (Continue q) work warm results f = tt
    closes_says (Break x) work warm results f = f.other

    -- ---- a point
    refuses : (tally : Tally) → tally.cached_rows ≡ w.tally.cached_rows → (number : ℕ) → Not19 number → (place : Place) → Halts (B.refused_by p tally (B.refusal number place))
    unfolding B.refused_by Other19
    refuses tally same number l place = record { place = idles counts p g.place; same = same; other = l }

    asks : (eta : Pair) (a : Answer Pair) → OtherIf a → Halts (B.ask_for p (B.counted w.tally) eta a)
    unfolding B.ask_for B.counted Other19 OtherIf
    asks eta (given v) l = record { place = awaits counts p g.place v; same = refl; other = tt }
    asks eta (refused n) l = refuses _ refl n l _

    asked : (eta : Pair) → Halts (B.ask fit p w.tally eta)
    unfolding B.ask
    asked eta = both Halts _ (asks eta _ (values_other _ eta _)) (refuses w.tally refl 6 (before_19 (omega arith)) _)

    by_recall : (eta : Pair) (o : Option Recalled) → ((r : Recalled) → o ≡ Some r → AsLong w.work r.work)
        → Ends (ended (answered fit rows p w.tally eta w.work o).value (answered fit rows p w.tally eta w.work o).work w.warm w.results)
    unfolding answered takes PlacedTurned
    by_recall eta (Some r) f = record { turned = advances counts p g.place fit eta (B.sums_of r.terms); work = move_rows_length rows _ r.work ∙ f r refl; warm = refl; results = refl }
    by_recall eta None f = record { turned = asked eta; work = refl; warm = refl; results = refl }

    at_point_lem : (eta : Pair) → Ends (served_by words fit counts p w.tally w.kept w.work w.warm w.results (Wants.Point eta))
    unfolding served_by at_point
    at_point_lem eta = by_recall eta _ (λ r q. recalled_length _ _ rows w.work (block rows 3) _ r q)

    -- ---- a mode
    refused_ends : (number : ℕ) → Not19 number → (place : Place) (warm : List ℕ) → AsLong w.warm warm → Ends (ended (Break (B.refused_by p w.tally (B.refusal number place))) w.work warm w.results)
    unfolding PlacedTurned
    refused_ends number l place warm a = record { turned = refuses w.tally refl number l place; work = refl; warm = a; results = refl }

    finished_halts : (ofv squares : Float) → Halts (record { progress = B.finished p ofv squares; tally = w.tally; step = Answers.Finished ofv })
    unfolding Other19
    finished_halts ofv squares = record { place = finishes counts p g.place ofv squares; same = refl; other = tt }

    objective_ends : (ofv squares : Float) → Halts (B.objective_of p w.tally ofv squares)
    unfolding B.objective_of
    objective_ends ofv squares = both Halts (nonfinite ofv) (refuses w.tally refl 18 (before_19 (omega arith)) _) (finished_halts ofv squares)

    next_ends : (m : Mode) (warm results : List ℕ) → AsLong w.warm warm → AsLong w.results results
        → Ends (ended (next_subject fit counts p w.tally m rows warm w.work).value (next_subject fit counts p w.tally m rows warm w.work).work warm results)
    unfolding next_subject PlacedTurned
    next_ends m warm results a b =
        cases (λ (x : Worked Turned). Ends (ended x.value x.work warm results)) (ltb (raised p.subject 1) (length counts))
        (λ t. record { turned = begins counts fit.effects (raised p.subject 1) (raised p.first rows) _ _ _ (ltb-true _ _ t) next_first; work = zeros_length _; warm = a; results = b })
        (λ t. record { turned = objective_ends _ _; work = refl; warm = a; results = b })
      where
        next_first : raised p.first rows ≡ before counts (raised p.subject 1)
        next_first =
            let a : raised p.subject 1 ≡ suc p.subject = mod-eq_of_lt (omega (arith, g.place.subject, accepted.most)) ∙ omega arith in
            ap (λ (i : ℕ). raised i rows) g.place.first ∙ first_exact accepted p.subject g.place.subject ∙ ap (before counts) (sym a)

    by_closed : (c : Option Mode) → Ends (closing fit counts p w.tally rows w.work w.warm w.results c)
    unfolding closing
    by_closed None = refused_ends 16 (before_19 (omega arith)) _ w.warm refl
    by_closed (Some m) =
        let a = warm_stored_length fit.effects p.subject m.eta w.warm in
        both Ends (is_same_grid w.work rows) (next_ends m _ _ a (results_length (length counts) p.first w.work rows p.subject m.eta m.nll w.results))
        (refused_ends 17 (before_19 (omega arith)) _ _ a)

    -- ---- every request
    by_wanted : (v : Request Pair) → Other v → Ends (served_by words fit counts p w.tally w.kept w.work w.warm w.results v)
    unfolding served_by at_mode Other
    by_wanted (Wants.Point eta) l = at_point_lem eta
    by_wanted Wants.Mode l = by_closed (B.closed_by fit p rows)
    by_wanted (Wants.Refused n) l = refused_ends n l _ w.warm refl

    every_request : Ends (served_by words fit counts p w.tally w.kept w.work w.warm w.results (B.wanted_by fit p))
    every_request = by_wanted _ (wanted_other fit p g.place.two)

    pub turns_going : After Going (N.turn_held words setup counts h)
    unfolding N.turn_held turn turned served
    turns_going =
        let e = every_request in
        closes _ _ _ _ e.turned (both (AsLong w.work) _ (zeros_length _ ∙ e.work) e.work) e.warm e.results

    pub turns_say : Says Other19 (N.turn_held words setup counts h)
    unfolding N.turn_held turn turned served
    turns_say = closes_says _ _ _ _ every_request.turned

    -- ---- entries
    unaltered_going : (number : ℕ) (place : Place) → After Going (N.unaltered words number place h)
    unfolding After
    unaltered_going number place = g

    when_admitted_lem : (go : Moved (Held words) Step) (a : Admission) → After Going go → After Going (N.when_admitted words h go a)
    unfolding N.when_admitted
    when_admitted_lem go (Ok tt) f = f
    when_admitted_lem go (Err (A.Refused n)) f = unaltered_going n _
    when_admitted_lem go (Err (A.Unsound place)) f = unaltered_going 4 _

    over_going : (number : ℕ) (place : Place) → After Going (N.over words number place h)
    unfolding After N.over
    over_going number place = goes (B.idle p) w.tally (zeros (length w.work)) w.warm w.results (idles counts p g.place) refl (zeros_length _) refl refl

    begun_going : (parameters : Parameters) → Going (N.begun words setup counts parameters w)
    unfolding N.begun
    begun_going parameters = record { place = begins counts setup.effects 0 0 _ _ _ accepted.some (unfold before in refl); work = g.work; warm = g.warm; results = g.results; rows = g.rows }

    objective_going : (n : ℕ) (check : Check) (parameters : Parameters) → After Going (N.enter_objective words setup counts n check parameters h)
    unfolding After N.enter_objective
    objective_going n check parameters =
        both (After Going) _ (unaltered_going 19 At.Nowhere) (both (After Going) _ (when_admitted_lem _ _ (begun_going parameters)) (unaltered_going 19 At.Nowhere))

    at_wanted_lem : (n : ℕ) (check : Check) (go : Pair → Moved (Held words) Step) → ((eta : Pair) → After Going (go eta)) → (v : Request Pair) → After Going (N.at_wanted words setup counts n check h go v)
    unfolding N.at_wanted
    at_wanted_lem n check go f (Wants.Point eta) = when_admitted_lem (go eta) _ (f eta)
    at_wanted_lem n check go f Wants.Mode = unaltered_going 19 _
    at_wanted_lem n check go f (Wants.Refused number) = unaltered_going 19 _

    when_awaited_lem : (n : ℕ) (check : Check) (go : Pair → Moved (Held words) Step) → ((eta : Pair) → After Going (go eta)) → After Going (N.when_awaited words setup counts n check h go)
    unfolding N.when_awaited
    when_awaited_lem n check go f = both (After Going) _ (both (After Going) _ (at_wanted_lem n check go f _) (unaltered_going 19 _)) (unaltered_going 19 _)

    replied_going : (eta : Pair) (work : List ℕ) → AsLong w.work work → (e : Evaluation) → After Going (N.replied words counts fit eta h work e)
    unfolding After N.replied receive takes
    replied_going eta work a (Ok sums) = record {
      place = advances counts p g.place fit eta sums;
      work = move_rows_length rows _ work ∙ a
          ∙ g.work;
      warm = g.warm;
      results = g.results;
      rows = refl;
    }
    replied_going eta work a (Err (E.Refused n)) = over_going n _
    replied_going eta work a (Err (E.RefusedAt n i)) = over_going n _

    answered_going : (said : List ℕ) (eta : Pair) → After Going (N.answered words setup counts observations said eta h)
    unfolding N.answered
    answered_going said eta =
        replied_going eta _ (work_length (N.trial_of words setup counts fit p) said setup.width setup.effects setup.output_budget (take rows (drop p.first observations)) w.work) _

    pub enters_going : (c : Call) → After Going (N.enter words setup counts observations c h)
    unfolding N.enter N.enter_reply N.enter_failure
    enters_going (objective parameters) = objective_going _ _ parameters
    enters_going (reply said) = when_awaited_lem _ _ _ (answered_going said)
    enters_going failure = when_awaited_lem _ _ _ (λ eta. over_going 8 _)

    -- ---- the warm starts are set
    pub sets_going : (warm : List ℕ) → Going (N.set_warm words setup counts warm h)
    unfolding N.set_warm
    sets_going warm = cases Going _ (λ t. goes p w.tally w.work warm w.results g.place refl refl (eqb-true _ _ t) refl) (λ t. g)

  -- ---- setup
  pub opens_going : (results : List ℕ) → length results ≡ lent.results → Going (N.opened words setup counts lent results)
  unfolding order_rows
  opens_going results e = record { place = begins counts setup.effects 0 0 _ _ _ accepted.some (unfold before in refl); work = zeros_length _; warm = zeros_length _; results = e; rows = refl }

  -- ---- the subject's observations are lent
  pub observations_lent : (n largest : ℕ) → count_observations counts ≡ within n largest → (h : Held words) → Going h → h.whole.progress.first + rows_of counts h.whole.progress.subject ≤ n
  unfolding count_observations before
  observations_lent n largest e h g =
      let i = h.whole.progress.subject in
      let f = before_most counts (suc i) 0 0 e g.place.subject in
      omega (arith, f, g.place.first, rows_most counts i)
