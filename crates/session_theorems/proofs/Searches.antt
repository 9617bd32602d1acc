-- A subject's search within an objective is a search of the rules, with one effect and with two: what `Suits` asks of an `Inner`. Assumes nothing.
use mathlib.Core.Path.{◌≡◌, refl, sym, ap, subst, ◌∙◌}
use mathlib.Core.Bool.{Bool, true, false}
use Prim.Native.Nat.{ℕ, suc, ◌+◌, ◌*◌, ◌≤◌, ◌<◌}
use native.Mathlib.Omega.{arith}
use lib.Dec.{T, eqb}
use borrow.Author.Tests.{eq-eqb}
use lib.Ieee.{Float}
use lib.Ieee.Scale.{finite}
use Rattle.float64.specs.Arithmetic.{word}
use Rattle.float64.specs.Float64.{nonfinite}
use Rattle.float64.specs.Pick.{cases, pick_yes, pick_no}
use Rattle.matrix.specs.declared.Pair.{Pair}
use Rattle.mode.specs.Rules.{request, start}
use Rattle.mode.specs.declared.population_focei.Search.{Search}
use Rattle.mode_2d.specs.Rules as R2
use Rattle.mode_2d.specs.declared.population_focei_2d.Search2.{Search2}
use Rattle.mode_theorems.specs.History as H1
use Rattle.mode_theorems.specs.History2 as H2
use Rattle.mode_theorems.proofs.Found.{one_search}
use Rattle.mode_theorems.proofs.Found2.{two_search}
use Rattle.subject.specs.Subject.{has_nonfinite_sum}
use Rattle.subject.specs.declared.Sums.{Sums}
use Rattle.search.specs.Subjects as B
use Rattle.search.specs.declared.Advanced.{Advanced}
use Rattle.search.specs.declared.Fit.{Fit}
use Rattle.search.specs.declared.Progress.{Progress}
use Rattle.machine.specs.Rules.{Rules, Proved, point, mode, refusal, wanted, after}
use Rattle.machine.specs.Rules as Rules
use Rattle.session_theorems.proofs.FirstSearch.{first_one, first_two}
use Rattle.session_theorems.proofs.Plain.{not_not}
use Rattle.session_theorems.specs.Inner.{Inner, inner1, inner2, rules1, claims1, rules2, claims2, wants1, wants2}
use Rattle.setup.specs.Admission.{is_no_omega, is_no_shape, with_parameters}
use Rattle.setup.specs.declared.Parameters.{Parameters}
use Rattle.setup.specs.declared.Setup.{Setup}
use Rattle.session_theorems.proofs.Domains.{domain1, domain2}
use Rattle.session_theorems.proofs.Fitting.{Fits, FitsBoth, zero_fits, point_fits, TrialFits, start_fits, advance_fits, point2_fits}
use Rattle.session_theorems.proofs.Points.{Passed, prior_number, edge_number}
use Rattle.mode.specs.declared.Request.{Request}
use Rattle.mode.specs.declared.Request.TheVariants as Asks

-- what the session's answer says in the rules' own terms
abbrev pub wants_of : (I : Inner) → Request Pair → Rules.Wanted I.rules.Point
wants_of I (Asks.Point eta) = point (I.point_of eta)
wants_of I Asks.Mode = mode
wants_of I (Asks.Refused number) = refusal number

-- an Inner for so many effects
pub record Suits (I : Inner) (effects : ℕ) : Type 1 where
  pub wants : (fit : Fit) (p : Progress) → fit.effects ≡ effects → wants_of I (B.wanted_by fit p) ≡ wanted I.rules (I.settings_of fit p) (I.search_of p)
  pub pairs : (fit : Fit) (p : Progress) (eta : Pair) → fit.effects ≡ effects → B.wanted_by fit p ≡ Asks.Point eta → I.pair_of (I.point_of eta) ≡ eta
  -- the settings go by the warm start alone
  pub settings : (fit : Fit) (p q : Progress) → q.warm ≡ p.warm → I.settings_of fit q ≡ I.settings_of fit p
  pub starts : (effects subject first : ℕ) (warm : Pair) (ofv squares : Float) → I.search_of (B.begin_subject effects subject first warm ofv squares) ≡ I.rules.start
  pub waits : (p : Progress) (individual : Pair) → I.search_of (B.awaiting p individual) ≡ I.search_of p
  pub advances : (fit : Fit) (p : Progress) (eta : Pair) (sums : Sums) → fit.effects ≡ effects
      → I.search_of (B.advance_by fit p eta sums).progress ≡ I.rules.advance (I.settings_of fit p) (I.search_of p) (I.conditional_of fit eta sums)
  -- finite sums at a point that passed 7 answer what was asked
  pub answers : (fit : Fit) (p : Progress) (eta : Pair) (sums : Sums) → fit.effects ≡ effects → I.claims.Domain (I.settings_of fit p)
      → B.wanted_by fit p ≡ Asks.Point eta → Passed eta effects → has_nonfinite_sum sums ≡ false → I.rules.Answers (I.rules.request (I.settings_of fit p) (I.search_of p))
      (I.conditional_of fit eta sums)
  -- parameters that passed the checks give settings of the domain
  pub domain : (setup : Setup) (parameters : Parameters) (p : Progress) → setup.effects ≡ effects → Fits setup.eta_bound → is_no_omega (with_parameters setup parameters) ≡ false
      → is_no_shape (with_parameters setup parameters) ≡ false → FitsBoth p.warm → I.claims.Domain (I.settings_of (B.fit_of setup parameters) p)
  -- what the search keeps of its next point is of the format, and so is what it asks for
  pub Pointed : Progress → Type 0
  pub pointed_start : (effects subject first : ℕ) (warm : Pair) (ofv squares : Float) → Pointed (B.begin_subject effects subject first warm ofv squares)
  pub pointed_wait : (p : Progress) (individual : Pair) → Pointed p → Pointed (B.awaiting p individual)
  pub pointed_idle : (p : Progress) → Pointed p → Pointed (B.idle p)
  pub pointed_end : (p : Progress) (ofv squares : Float) → Pointed p → Pointed (B.finished p ofv squares)
  pub pointed_on : (fit : Fit) (p : Progress) (eta : Pair) (sums : Sums) → fit.effects ≡ effects → Fits fit.eta_bound → Pointed p → Pointed (B.advance_by fit p eta sums).progress
  pub points : (fit : Fit) (p : Progress) (eta : Pair) → fit.effects ≡ effects → Fits fit.eta_bound → FitsBoth p.warm → Pointed p → B.wanted_by fit p ≡ Asks.Point eta → FitsBoth eta
  pub proved : Proved I.rules I.claims
  pub enough : (subjects : ℕ) → subjects ≤ 4096 → subjects * suc I.claims.ceiling ≤ 25985024

no_number : {X : Type 0} → ◌≡◌ {A = ℕ} 0 1 → X
no_number e = absurd (omega (arith, e))

-- ---- finite sums
all_finite : (sums : Sums) → has_nonfinite_sum sums ≡ false → T (finite sums.nll) × T (finite sums.score.first)
unfolding has_nonfinite_sum
all_finite sums h =
    cases (λ (b : Bool). b ≡ false → T (finite sums.nll) × T (finite sums.score.first)) (nonfinite sums.nll) (λ t e. absurd (subst T e tt))
    (λ t. cases (λ (b : Bool). b ≡ false → T (finite sums.nll) × T (finite sums.score.first)) (nonfinite sums.score.first) (λ u e. absurd (subst T e tt))
    (λ u e. (not_not (finite sums.nll) t, not_not (finite sums.score.first) u)))
    h

-- ---- one effect
module _ (fit : Fit) (e : fit.effects ≡ 1) where
  pub one_not_two : eqb fit.effects 2 ≡ false
  one_not_two = ap (λ (n : ℕ). eqb n 2) e

  pub wanted_one : (p : Progress) → B.wanted_by fit p ≡ B.wants1 (request (B.settings fit p) (B.one_of p.search))
  unfolding B.wanted_by B.wanted1
  wanted_one p = pick_no _ _ _ one_not_two

wants_one : (q : Request Float) → wants_of inner1 (B.wants1 q) ≡ wants1 q
wants_one (Asks.Point eta) = refl
wants_one Asks.Mode = refl
wants_one (Asks.Refused n) = refl

pub point_one : (q : Request Float) (eta : Pair) → B.wants1 q ≡ Asks.Point eta → (q ≡ Asks.Point eta.first) × (record { first = eta.first; second = word 0 } ≡ eta)
point_one (Asks.Point x) eta e = (cc, cc)
point_one Asks.Mode eta e = no_number cc
point_one (Asks.Refused n) eta e = no_number cc

proved1 : Proved rules1 claims1
unfolding H1.asks
proved1 = record {
  few = λ st h p d f w. few_by (request st (H1.after st h)) p w (one_search st d h f).at_most;
  good = λ st h d f w. (one_search st d h f).found (mode_by (request st (H1.after st h)) w);
  means = λ st h n d f w. let e = refusal_by (request st (H1.after st h)) n w in let t = one_search st d h f in record {
    at_bound = λ q. t.at_bound (e ∙ ap Asks.Refused q);
    several = λ q. t.several (e ∙ ap Asks.Refused q);
    unsettled = λ q. ((H1.after st h).best, t.unsettled (e ∙ ap Asks.Refused q));
    numbers = t.numbers n e;
  };
}
  where
    few_by : (q : Request Float) (p : Float) → wants1 q ≡ point p → {n : ℕ} → n + H1.asks q ≤ 82 → n < 82
    few_by (Asks.Point x) p w l = omega (arith, l)
    few_by Asks.Mode p w l = no_number cc
    few_by (Asks.Refused k) p w l = no_number cc

    refusal_by : (q : Request Float) (n : ℕ) → wants1 q ≡ refusal n → q ≡ Asks.Refused n
    refusal_by (Asks.Point x) n w = no_number cc
    refusal_by Asks.Mode n w = no_number cc
    refusal_by (Asks.Refused k) n w = cc

    mode_by : (q : Request Float) → wants1 q ≡ mode → q ≡ Asks.Mode
    mode_by (Asks.Point x) w = no_number cc
    mode_by Asks.Mode w = refl
    mode_by (Asks.Refused k) w = no_number cc

pub suits1 : Suits inner1 1
unfolding B.settings B.begin_subject B.awaiting B.advance_by B.advance1 B.with_search B.conditional1
suits1 = record {
  wants = λ fit p e. ap (wants_of inner1) (wanted_one fit e p) ∙ wants_one (request (B.settings fit p) (B.one_of p.search));
  pairs = λ fit p eta e w. (point_one (request (B.settings fit p) (B.one_of p.search)) eta (sym (wanted_one fit e p) ∙ w)).1;
  settings = λ fit p q e. cc;
  starts = λ effects subject first warm ofv squares. first_one (λ (x : Search). x ≡ start) effects refl;
  waits = λ p individual. refl;
  advances = λ fit p eta sums e. ap (λ (a : Advanced). B.one_of a.progress.search) (pick_no _ _ _ (one_not_two fit e));
  answers = λ fit p eta sums e d w passed f. record {
    asked = (point_one (request (B.settings fit p) (B.one_of p.search)) eta (sym (wanted_one fit e p) ∙ w)).0;
    eta_number = edge_number eta.first passed.first;
    score_number = prior_number sums.score.first eta.first fit.omega (all_finite sums f).1 passed.first d.omega_low d.omega_high;
  };
  domain = λ setup parameters p e f o sh w. domain1 setup parameters p e f o sh w.first;
  Pointed = λ p. Unit;
  pointed_start = λ effects subject first warm ofv squares. tt;
  pointed_wait = λ p individual h. tt;
  pointed_idle = λ p h. tt;
  pointed_end = λ p ofv squares h. tt;
  pointed_on = λ fit p eta sums e f h. tt;
  points = λ fit p eta e f w h q.
      let one = point_one (request (B.settings fit p) (B.one_of p.search)) eta (sym (wanted_one fit e p) ∙ q) in
      subst FitsBoth one.1 (record { first = point_fits (B.settings fit p) (B.one_of p.search) eta.first w.first one.0; second = zero_fits.second });
  proved = proved1;
  enough = λ n h. omega (arith, h);
}

-- ---- two effects
module _ (fit : Fit) (e : fit.effects ≡ 2) where
  pub is_two : eqb fit.effects 2 ≡ true
  is_two = eq-eqb _ _ e

  pub wanted_two : (p : Progress) → B.wanted_by fit p ≡ B.wants2 (R2.request (B.settings2 fit p) (B.two_of p.search))
  unfolding B.wanted_by B.wanted2
  wanted_two p = pick_yes _ _ _ is_two

wants_two : (q : Request Pair) → wants_of inner2 (B.wants2 q) ≡ wants2 q
wants_two (Asks.Point eta) = refl
wants_two Asks.Mode = refl
wants_two (Asks.Refused n) = refl

pub point_two : (q : Request Pair) (eta : Pair) → B.wants2 q ≡ Asks.Point eta → q ≡ Asks.Point eta
point_two (Asks.Point x) eta e = cc
point_two Asks.Mode eta e = no_number cc
point_two (Asks.Refused n) eta e = no_number cc

proved2 : Proved rules2 claims2
unfolding H2.asks
proved2 = record {
  few = λ st h p d f w. few_by (R2.request st (H2.after st h)) p w (two_search d.0 st d.1 h f).at_most;
  good = λ st h d f w. (two_search d.0 st d.1 h f).found (mode_by (R2.request st (H2.after st h)) w);
  means = λ st h n d f w. let e = refusal_by (R2.request st (H2.after st h)) n w in let t = two_search d.0 st d.1 h f in record {
    unresolved = λ q. t.unresolved (e ∙ ap Asks.Refused q);
    several = λ q. t.several (e ∙ ap Asks.Refused q);
    no_inverse = λ q. t.no_inverse (e ∙ ap Asks.Refused q);
    numbers = t.numbers n e;
  };
}
  where
    few_by : (q : Request Pair) (p : Pair) → wants2 q ≡ point p → {n : ℕ} → n + H2.asks q ≤ 6343 → n < 6343
    few_by (Asks.Point x) p w l = omega (arith, l)
    few_by Asks.Mode p w l = no_number cc
    few_by (Asks.Refused k) p w l = no_number cc

    refusal_by : (q : Request Pair) (n : ℕ) → wants2 q ≡ refusal n → q ≡ Asks.Refused n
    refusal_by (Asks.Point x) n w = no_number cc
    refusal_by Asks.Mode n w = no_number cc
    refusal_by (Asks.Refused k) n w = cc

    mode_by : (q : Request Pair) → wants2 q ≡ mode → q ≡ Asks.Mode
    mode_by (Asks.Point x) w = no_number cc
    mode_by Asks.Mode w = refl
    mode_by (Asks.Refused k) w = no_number cc

pub suits2 : Suits inner2 2
unfolding B.settings2 B.begin_subject B.idle B.finished B.awaiting B.advance_by B.advance2 B.with_search B.conditional2
suits2 = record {
  wants = λ fit p e. ap (wants_of inner2) (wanted_two fit e p) ∙ wants_two (R2.request (B.settings2 fit p) (B.two_of p.search));
  pairs = λ fit p eta e w. refl;
  settings = λ fit p q e. cc;
  starts = λ effects subject first warm ofv squares. first_two (λ (x : Search2). x ≡ R2.start) effects refl;
  waits = λ p individual. refl;
  advances = λ fit p eta sums e. ap (λ (a : Advanced). B.two_of a.progress.search) (pick_yes _ _ _ (is_two fit e));
  answers = λ fit p eta sums e d w passed f. record {
    asked = point_two (R2.request (B.settings2 fit p) (B.two_of p.search)) eta (sym (wanted_two fit e p) ∙ w);
    within0 = passed.first;
    within1 = passed.second refl;
    nll_finite = (all_finite sums f).0;
  };
  domain = λ setup parameters p e f o sh w. domain2 setup parameters p e o;
  Pointed = λ p. TrialFits (B.two_of p.search);
  pointed_start = λ effects subject first warm ofv squares. first_two TrialFits effects start_fits;
  pointed_wait = λ p individual h. h;
  pointed_idle = λ p h. h;
  pointed_end = λ p ofv squares h. h;
  pointed_on = λ fit p eta sums e f h. subst (λ (a : Advanced). TrialFits (B.two_of a.progress.search)) (sym (pick_yes _ _ _ (is_two fit e)))
      (advance_fits (B.settings2 fit p) f (B.two_of p.search) (B.conditional2 eta sums) h);
  points = λ fit p eta e f w h q. point2_fits (B.settings2 fit p) f (B.two_of p.search) eta h w (point_two (R2.request (B.settings2 fit p) (B.two_of p.search)) eta (sym (wanted_two fit e p) ∙ q));
  proved = proved2;
  enough = λ n h. omega (arith, h);
}
