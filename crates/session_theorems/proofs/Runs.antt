-- Every search of every session is a run of the source's `mode` (specs/Runs.antt): demand 3 with what the source's run says in the place of
-- what is claimed of a mode and of a refusal. Assumes nothing.
use Rattle.std.specs.Prelude.{Float}
use mathlib.Core.Path.{◌≡◌, refl, sym, ap, ◌∙◌, subst}
use mathlib.Core.List.{List, [], ◌∷◌, map}
use Prim.Native.Nat.{ℕ, zero, suc}
use lib.ListN.{take}
use Rattle.mode.specs.declared.population_focei.Settings.{Settings}
use Rattle.mode.specs.declared.population_focei.Conditional as C
use Rattle.mode.specs.declared.population_focei.Search.{Search}
use Rattle.mode.specs.Rules.{request}
use Rattle.mode_2d.specs.declared.population_focei_2d.Settings2.{Settings2}
use Rattle.mode_2d.specs.declared.population_focei_2d.Conditional2.{Conditional2}
use Rattle.mode_2d.specs.Rules as R2
use Rattle.mode_theorems.specs.Histories.{Answered}
use Rattle.mode_theorems.specs.History as H1
use Rattle.mode_theorems.specs.History2 as H2
use Rattle.likelihood.specs.declared.population_focei.Observation.{Observation}
use Rattle.source.specs.Run.{Run, done, ask, stop, Said, asks, found, refused, said, play, AskedAt}
use Rattle.source.specs.Source as S1
use Rattle.source.specs.Source2 as S2
use Rattle.source.specs.Claim as K1
use Rattle.source.specs.Claim2 as K2
use Rattle.source.proofs.One.{one_effect}
use Rattle.source.proofs.Tells.{asked_of}
use Rattle.source.proofs.Two.{two_effects}
use Rattle.setup.specs.declared.Setup.{Setup}
use Rattle.search.specs.Subjects as B
use Rattle.machine.specs.Log.{Every, none, more, Searched, history, Waits, Holds}
use Rattle.machine.specs.Rules.{Rules, Claims, Proved, Follows, after, wanted, point, mode, refusal}
use Rattle.machine.specs.Rules as Rules
use Rattle.session_theorems.specs.Inner.{Inner, inner1, inner2, wants1, wants2}
use Rattle.session_theorems.specs.Runs.{Original, lift, original1, original2, IsRun, Waiting, AllRuns, EveryRun}
use Rattle.session_theorems.proofs.Searches.{Suits, suits1, suits2, wants_of}
use Rattle.session_theorems.proofs.Session.{for_words}
use Rattle.mode.specs.declared.Request.{Request}
use Rattle.matrix.specs.declared.Pair.{Pair}
use Rattle.mode.specs.declared.Request.TheVariants as Asks

-- what a run says where the rules want this, and have this best point
tell : {P A : Type 0} → Rules.Wanted P → A → Said P A
tell (point p) m = asks p
tell mode m = found m
tell (refusal n) m = refused n

-- ---- any rules whose histories are paths of a run that says what the rules want
module _ (I : Inner) (O : Original I.rules) where
  abbrev R : Rules
  R = I.rules

  record Speaks : Type 0 where
    path : (st : R.Settings) (h : List R.Conditional) → Follows R st h → O.Asks st h
    same : (st : R.Settings) (h : List R.Conditional) → Follows R st h → O.says st h ≡ tell (wanted R st (after R st h)) (R.best (after R st h))

  abbrev said_claims : Claims R
  said_claims = record {
    Domain = I.claims.Domain;
    ceiling = I.claims.ceiling;
    Good = λ st h m. O.says st h ≡ found m;
    Means = λ st h n. O.says st h ≡ refused n;
  }

  abbrev as_run : Inner
  as_run = record {
    rules = R;
    claims = said_claims;
    settings_of = I.settings_of;
    search_of = I.search_of;
    point_of = I.point_of;
    pair_of = I.pair_of;
    conditional_of = I.conditional_of;
  }

  wants_same : (w : Request Pair) → wants_of as_run w ≡ wants_of I w
  wants_same (Asks.Point eta) = refl
  wants_same Asks.Mode = refl
  wants_same (Asks.Refused number) = refl

  module _ (s : Speaks) where
    said_as : (st : R.Settings) (h : List R.Conditional) (w : Rules.Wanted R.Point) → Follows R st h → wanted R st (after R st h) ≡ w → O.says st h ≡ tell w (R.best (after R st h))
    said_as st h w f e = s.same st h f ∙ ap (λ (w : Rules.Wanted R.Point). tell w (R.best (after R st h))) e

    proved : Proved R I.claims → Proved R said_claims
    unfolding tell
    proved p = record {
      few = p.few;
      good = λ st h d f e. said_as st h mode f e;
      means = λ st h n d f e. said_as st h (refusal n) f e;
    }

    suits : (n : ℕ) → Suits I n → Suits as_run n
    suits n q = record {
      wants = λ fit p e. wants_same (B.wanted_by fit p) ∙ q.wants fit p e;
      pairs = q.pairs;
      settings = q.settings;
      starts = q.starts;
      waits = q.waits;
      advances = q.advances;
      answers = q.answers;
      domain = q.domain;
      Pointed = q.Pointed;
      pointed_start = q.pointed_start;
      pointed_wait = q.pointed_wait;
      pointed_idle = q.pointed_idle;
      pointed_end = q.pointed_end;
      pointed_on = q.pointed_on;
      points = q.points;
      proved = proved q.proved;
      enough = q.enough;
    }

    each_run : (xs : List (Searched R)) → Every (Holds R said_claims) xs → Every (IsRun R O) xs
    each_run [] none = none
    each_run (x ∷ xs) (more h hs) = more (record { asked = s.path x.settings (history R x) h.follows; mode = h.good; refusal = h.refused }) (each_run xs hs)

    waiting : (xs : List (Searched R)) → Every (Holds R said_claims) xs → Waits R xs → Waiting R O xs
    unfolding tell
    waiting [] none w = w
    waiting (x ∷ xs) (more h hs) w = (w.2.0, said_as x.settings (history R x) (point w.2.0) h.follows w.2.1)

    all_runs : (setup : Setup) (counts : List ℕ) (observations : List Observation) → Suits I setup.effects → AllRuns setup counts observations I O
    all_runs setup counts observations q lent results g acts =
        let d = for_words setup counts observations as_run (suits setup.effects q) g.bound g.limit lent results g.passes acts in
        record { each = each_run _ d.each; waits = λ t. waiting _ d.each (d.waits t) }

-- ---- a view of what is said
map_said : {P A B : Type 0} → (A → B) → Said P A → Said P B
map_said f (asks p) = asks p
map_said f (found m) = found (f m)
map_said f (refused n) = refused n

said_map : {P C A B D : Type 0} (f : B → D) (v : A → B) (r : Run P C A) → said (λ a. f (v a)) r ≡ map_said f (said v r)
unfolding said map_said
said_map f v (done a) = refl
said_map f v (ask p k) = refl
said_map f v (stop n) = refl

-- ---- one effect
lifted : (h : List C.Conditional) → map K1.bare (map lift h) ≡ h
lifted [] = refl
lifted (c ∷ h) = ap (λ l. c ∷ l) (lifted h)

-- no score of a history is a NaN
numbers : (n : ℕ) (s : Settings) (x : Search) (h : List C.Conditional) → H1.FollowsFrom s x h → K1.Numbers (take n (map lift h))
unfolding Answered K1.Numbers
numbers zero s x h f = tt
numbers (suc n) s x [] f = tt
numbers (suc n) s x (c ∷ h) f = (f.0.score_number, numbers n s _ h f.1)

tells1 : (q : Request Float) (m : K1.Told) → map_said (λ (m : K1.Told). m.0) (K1.told_by q m) ≡ tell (wants1 q) m.0
unfolding map_said K1.told_by tell
tells1 (Asks.Point p) m = refl
tells1 Asks.Mode m = refl
tells1 (Asks.Refused n) m = refl

module _ (s : Settings) (h : List C.Conditional) (f : H1.Follows s h) where
  abbrev given : List S1.Conditional
  given = map lift h

  is_source : K1.OneSource s given
  is_source = one_effect s given (numbers 17 s _ h f)

  asked1 : AskedAt (λ c. c.eta) (S1.mode s) given
  asked1 = is_source.path (subst (H1.Follows s) (sym (lifted h)) f)

  search1 : (K1.led s given).search ≡ H1.after s h
  search1 = is_source.search ∙ ap (H1.after s) (lifted h)

  says1 : original1.says s h ≡ tell (wants1 (request s (H1.after s h))) (H1.after s h).best
  says1 =
      said_map (λ (m : K1.Told). m.0) K1.view (play (S1.mode s) given) ∙ ap (map_said (λ (m : K1.Told). m.0)) (is_source.same (asked_of (λ c. c.eta) (S1.mode s) given asked1))
      ∙ tells1 (request s (K1.led s given).search) _ ∙ ap (λ (x : Search). tell (wants1 (request s x)) x.best) search1

speaks1 : Speaks inner1 original1
speaks1 = record { path = asked1; same = says1 }

-- ---- two effects
tells2 : (q : Request Pair) (m : Conditional2 × Conditional2) → map_said (λ (m : Conditional2 × Conditional2). m.0) (K2.told_by q m) ≡ tell (wants2 q) m.0
unfolding map_said K2.told_by tell
tells2 (Asks.Point p) m = refl
tells2 Asks.Mode m = refl
tells2 (Asks.Refused n) m = refl

says2 : (s : Settings2) (h : List Conditional2) → H2.Follows s h → original2.says s h ≡ tell (wants2 (R2.request s (H2.after s h))) (H2.after s h).best
says2 s h f =
    let o = two_effects s h in
    said_map (λ (m : Conditional2 × Conditional2). m.0) (λ m. m) (play (S2.mode s) h)
    ∙ ap (map_said (λ (m : Conditional2 × Conditional2). m.0)) (o.same (asked_of (λ c. c.eta) (S2.mode s) h (o.path f))) ∙ tells2 (R2.request s (H2.after s h)) _

speaks2 : Speaks inner2 original2
speaks2 = record { path = λ s h f. (two_effects s h).path f; same = says2 }

pub every_run : EveryRun
every_run setup counts observations = (
  λ e. all_runs inner1 original1 speaks1 setup counts observations (subst (Suits inner1) (sym e) suits1),
  λ e. all_runs inner2 original2 speaks2 setup counts observations (subst (Suits inner2) (sym e) suits2),
)
