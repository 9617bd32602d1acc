-- What a mode's words, settings and trials are in a session, with one effect and with two: what `Tells` asks of a reading. Assumes nothing.
use Rattle.std.specs.Prelude.{None, Option, Some}
use mathlib.Core.Path.{◌≡◌, refl, sym, ap, subst, ◌∙◌}
use mathlib.Core.Bool.{false}
use mathlib.Core.List.{List, [], ◌∷◌, ◌++◌}
use mathlib.Core.Logic.{◌⊎◌, inl, inr}
use Prim.Native.Nat.{ℕ, suc, ◌+◌, ◌*◌, ◌≤◌}
use native.Mathlib.Omega.{arith}
use borrow.Author.Tests.{eq-eqb}
use lib.Dec.{T, eqb}
use lib.IntN.{pos}
use lib.ListN.{get_or, set, length, length-set}
use lib.Seq.{get_or-set_same, get_or-set_other}
use lib.Ieee.Bits.{to_bits-of_bits}
use lib.Ieee.{Float, binary64, to_bits, of_bits, of_int, is_nan, le}
use Rattle.float64.specs.Arithmetic.{◌+ᶠ◌, ◌-ᶠ◌, ◌*ᶠ◌, ◌/ᶠ◌, word, one, two}
use Rattle.float64.specs.Float64.{nonfinite}
use Rattle.float64.specs.Pick.{pick, cases, pick_yes, pick_no}
use Rattle.libm.specs.Log.{log}
use Rattle.matrix.specs.Matrix.{pair, matrix_of, sum, determinant, product, dot, Inverse, some as inverted, none as singular, inverse_positive}
use Rattle.matrix.specs.declared.Pair.{Pair}
use Rattle.likelihood.specs.Terms.{log2pi}
use Rattle.mode.specs.Rules.{eta_tolerance, request, advance}
use Rattle.mode.specs.declared.population_focei.Settings.{Settings}
use Rattle.mode.specs.declared.population_focei.Conditional.{Conditional}
use Rattle.mode_2d.specs.Rules as R2
use Rattle.mode_2d.specs.declared.population_focei_2d.Settings2.{Settings2}
use Rattle.mode_2d.specs.declared.population_focei_2d.Conditional2.{Conditional2}
use Rattle.subject.specs.declared.Sums.{Sums}
use Rattle.setup.specs.Admission.{is_no_omega, is_none, omega_of, with_parameters}
use Rattle.setup.specs.declared.Setup.{Setup}
use Rattle.setup.specs.declared.Parameters.{Parameters}
use Rattle.setup.proofs.Bounds.{not_first}
use Rattle.search.specs.Subjects as B
use Rattle.search.specs.declared.Advanced.{Advanced}
use Rattle.search.specs.declared.Fit.{Fit}
use Rattle.search.specs.declared.Mode.{Mode}
use Rattle.search.specs.declared.Progress.{Progress}
use Rattle.search.proofs.Fits.{fit_effects}
use Rattle.machine.specs.Rules.{Trial}
use Rattle.population.specs.Population.{warm_of, warm_stored}
use Rattle.session.specs.Calls.{shrinkage}
use Rattle.session.specs.declared.State.{State}
use Rattle.session_theorems.specs.Inner.{Inner, rules1, inner1, inner2}
use Rattle.session_theorems.specs.Shown.{precision, Reads, reads1, reads2}
use Rattle.session_theorems.proofs.Domains.{two_omega}
use Rattle.session_theorems.proofs.Middle.{middle_zero}
use Rattle.session_theorems.proofs.Plain.{true_not_false}
use Rattle.session_theorems.proofs.Results.{past_two}
use Rattle.session_theorems.proofs.Searches.{one_not_two, wanted_one, point_one, is_two, wanted_two, point_two}
use Rattle.session_theorems.proofs.Trials.{Has, NthHas, nth_so, SameBlocks, Moves, Movable, Trial1, Carried1, begun1, same1, movable1, step1, end1, Trial2, Carried2, begun2, same2, movable2}
use Rattle.session_theorems.proofs.Trials.{step2, end2}
use Rattle.mode.specs.declared.Request.{Request}
use Rattle.mode.specs.declared.Request.TheVariants as Asks

module _ (I : Inner) (L : Reads I) where
  pub record OfMode (m : Mode) (b : I.rules.Conditional) : Type 0 where
    pub first : to_bits binary64 m.eta.first ≡ L.first b
    pub second : to_bits binary64 m.eta.second ≡ L.second b
    pub nll : to_bits binary64 m.nll ≡ L.nll b
    pub square : m.eta.first *ᶠ m.eta.first ≡ L.square b

  pub record Tells (effects : ℕ) : Type 1 where
    pub starts : (setup : Setup) (parameters : Parameters) (q : Progress) (warm : List ℕ) (i : ℕ) → setup.effects ≡ effects → q.warm ≡ warm_of warm effects i → I.settings_of
        (B.fit_of setup parameters) q ≡ L.settings setup parameters warm i
    pub modes : (fit : Fit) (p : Progress) (rows : ℕ) (m : Mode) → fit.effects ≡ effects → B.closed_by fit p rows ≡ Some m → OfMode m (I.rules.best (I.search_of p))
    pub flat : (fit : Fit) (p : Progress) (rows : ℕ) → fit.effects ≡ effects → B.closed_by fit p rows ≡ None → L.Flat (I.settings_of fit p) (I.rules.best (I.search_of p))
    pub stores : (j : ℕ) (m : Mode) (b : I.rules.Conditional) (warm : List ℕ) → OfMode m b → effects * suc j ≤ length warm → L.Warm j b (warm_stored effects j m.eta warm)
    pub others : (setup : Setup) (parameters : Parameters) (i j : ℕ) → (i ≡ j → ⊥) → (eta : Pair) (warm : List ℕ) → L.settings setup parameters
        (warm_stored effects j eta warm) i ≡ L.settings setup parameters warm i
    pub stays : (i j : ℕ) → (i ≡ j → ⊥) → (eta : Pair) (warm : List ℕ) (b : I.rules.Conditional) → L.Warm i b warm → L.Warm i b (warm_stored effects j eta warm)
    -- a mode's part of the objective
    pub adds : (setup : Setup) (parameters : Parameters) (p : Progress) (rows : ℕ) (m : Mode) → setup.effects ≡ effects → is_no_omega (with_parameters setup parameters) ≡ false → B.closed_by
        (B.fit_of setup parameters) p rows ≡ Some m
        → m.term ≡ L.term setup (I.settings_of (B.fit_of setup parameters) p) rows (I.rules.best (I.search_of p))
    -- what a state tells of its own sum of squares
    pub shrinks : (state : State) (n : ℕ) → L.Shrinks state n state.progress.eta_squares
    -- the rows of the trials in the blocks
    pub Carried : I.rules.Settings → List (Trial I.rules) → I.rules.Search → (ℕ → List ℕ) → Type 0
    pub begun : (st : I.rules.Settings) (rows : ℕ → List ℕ) → Carried st [] I.rules.start rows
    pub same : (st : I.rules.Settings) (ts : List (Trial I.rules)) (x : I.rules.Search) (rows other : ℕ → List ℕ) → SameBlocks rows other → Carried st ts x rows → Carried st ts x other
    pub movable : (fit : Fit) (p : Progress) (eta : Pair) (sums : Sums) → fit.effects ≡ effects → Movable (B.advance_by fit p eta sums).sources
    pub steps : (fit : Fit) (p : Progress) (eta : Pair) (sums : Sums) → fit.effects ≡ effects → B.wanted_by fit p ≡ Asks.Point eta → (ts : List (Trial I.rules)) (rows after : ℕ → List ℕ)
        (t : Trial I.rules)
        → t.point ≡ I.conditional_of fit eta sums → t.rows ≡ rows 3 → Moves (B.advance_by fit p eta sums).sources rows after → Carried (I.settings_of fit p) ts (I.search_of p) rows
        → Carried (I.settings_of fit p) (ts ++ (t ∷ [])) (I.search_of (B.advance_by fit p eta sums).progress) after
    pub ends : (fit : Fit) (p : Progress) → fit.effects ≡ effects → I.claims.Domain (I.settings_of fit p) → B.wanted_by fit p ≡ Asks.Mode → (ts : List (Trial I.rules)) (rows : ℕ → List ℕ)
        → Carried (I.settings_of fit p) ts (I.search_of p) rows → NthHas I.rules L.Zero L.zero_at ts (rows 0) × Has I.rules ts (I.rules.best (I.search_of p)) (rows 1)

-- one effect
not_positive : {m : Mode} → None ≡ Some m → ⊥
not_positive e = let z : ◌≡◌ {A = ℕ} 0 1 = cc in omega arith

same_mode : {x m : Mode} → Some x ≡ Some m → x ≡ m
same_mode e = cc

zero_bits : to_bits binary64 (word 0) ≡ 0
unfolding is_nan of_bits
zero_bits = to_bits-of_bits binary64 0 (omega arith) tt

one_mode : (fit : Fit) (best : Conditional) (rows : ℕ) (m : Mode) → B.closed1 fit best rows ≡ Some m → OfMode inner1 reads1 m best
unfolding B.closed1
one_mode fit best rows m =
    cases (λ (c : Option Mode). c ≡ Some m → OfMode inner1 reads1 m best) (nonfinite (one /ᶠ fit.omega +ᶠ best.information)) (λ t q. absurd (not_positive q))
    (λ t. cases (λ (c : Option Mode). c ≡ Some m → OfMode inner1 reads1 m best) (le (one /ᶠ fit.omega +ᶠ best.information) (word 0)) (λ z q. absurd (not_positive q))
    (λ z q. subst (λ (x : Mode). OfMode inner1 reads1 x best) (same_mode q) (record { first = refl; second = zero_bits; nll = refl; square = refl })))

positive_not : {m : Mode} → Some m ≡ None → ⊥
positive_not e = not_positive (sym e)

one_flat : (fit : Fit) (best : Conditional) (rows : ℕ) → B.closed1 fit best rows ≡ None
    → let c = one /ᶠ fit.omega +ᶠ best.information in T (nonfinite c) ⊎ T (le c (word 0))
unfolding B.closed1
one_flat fit best rows =
    let c = one /ᶠ fit.omega +ᶠ best.information in
    cases (λ (x : Option Mode). x ≡ None → T (nonfinite c) ⊎ T (le c (word 0))) (nonfinite c) (λ t q. inl (subst T (sym t) tt))
    (λ t. cases (λ (x : Option Mode). x ≡ None → T (nonfinite c) ⊎ T (le c (word 0))) (le c (word 0)) (λ z q. inr (subst T (sym z) tt)) (λ z q. absurd (positive_not q)))

starts1 : (setup : Setup) (parameters : Parameters) (q : Progress) (warm : List ℕ) (i : ℕ) → setup.effects ≡ 1 → q.warm ≡ warm_of warm 1 i → B.settings
    (B.fit_of setup parameters) q ≡ reads1.settings setup parameters warm i
unfolding eta_tolerance B.fit_of B.fit_with B.settings with_parameters warm_of pick
starts1 setup parameters q warm i e v =
    let fit = pick_no _ (B.fit2 (with_parameters setup parameters) parameters.theta) (B.fit_with (with_parameters setup parameters) parameters.theta B.no_matrix (word 0))
    (ap (λ (n : ℕ). eqb n 2) e) in
    let own = pick_yes _ parameters.omega setup.omega00 (ap (λ (n : ℕ). eqb n 1) e) in
    ap (λ (f : Fit). B.settings f q) fit ∙ cc

one_term : (fit : Fit) (best : Conditional) (rows : ℕ) (m : Mode) → B.closed1 fit best rows ≡ Some m
    → m.term ≡ two *ᶠ best.nll -ᶠ of_int binary64 (pos rows) *ᶠ log2pi +ᶠ best.eta *ᶠ best.eta /ᶠ fit.omega +ᶠ log (fit.omega *ᶠ (one /ᶠ fit.omega +ᶠ best.information))
unfolding B.closed1
one_term fit best rows m e =
    let a = not_first (nonfinite (one /ᶠ fit.omega +ᶠ best.information)) _ not_positive e in
    let b = not_first (le (one /ᶠ fit.omega +ᶠ best.information) (word 0)) _ not_positive a.1 in
    sym (ap (λ (x : Mode). x.term) (same_mode b.1))

-- what an objective's fit does with one effect
module _ (fit : Fit) (e : fit.effects ≡ 1) where
  advance_one : (p : Progress) (eta : Pair) (sums : Sums) → B.advance_by fit p eta sums ≡ B.advance1 (B.settings fit p) p (B.conditional1 fit eta sums)
  unfolding B.advance_by
  advance_one p eta sums = pick_no _ _ _ (one_not_two fit e)

mode_one_lem : (q : Request Float) → B.wants1 q ≡ Asks.Mode → q ≡ Asks.Mode
mode_one_lem (Asks.Point x) e = let z : ◌≡◌ {A = ℕ} 0 1 = cc in absurd (omega arith)
mode_one_lem Asks.Mode e = refl
mode_one_lem (Asks.Refused n) e = let z : ◌≡◌ {A = ℕ} 0 1 = cc in absurd (omega arith)

steps_one : (fit : Fit) (p : Progress) (eta : Pair) (sums : Sums) → fit.effects ≡ 1 → B.wanted_by fit p ≡ Asks.Point eta → (ts : List Trial1) (rows after : ℕ → List ℕ) (t : Trial1)
    → t.point ≡ B.conditional1 fit eta sums → t.rows ≡ rows 3
    → Moves (B.advance_by fit p eta sums).sources rows after → Carried1 (B.settings fit p) ts (B.one_of p.search) rows → Carried1 (B.settings fit p) (ts ++ (t ∷ []))
    (B.one_of (B.advance_by fit p eta sums).progress.search) after
unfolding B.advance1 B.with_search B.conditional1
steps_one fit p eta sums e w ts rows after t is own m h =
    let a = advance_one fit e p eta sums in
    let q = (point_one (request (B.settings fit p) (B.one_of p.search)) eta (sym (wanted_one fit e p) ∙ w)).0 in
    let n : Moves (B.sources1 (B.one_of p.search) t.point) rows after = subst (λ (c : Conditional). Moves (B.sources1 (B.one_of p.search) c) rows after) (sym is)
    (subst (λ (x : Advanced). Moves x.sources rows after) a m) in
    subst (λ (x : Advanced). Carried1 (B.settings fit p) (ts ++ (t ∷ [])) (B.one_of x.progress.search) after) (sym a)
    (subst (λ (c : Conditional). Carried1 (B.settings fit p) (ts ++ (t ∷ [])) (advance (B.settings fit p) (B.one_of p.search) c) after) is
    (step1 (B.settings fit p) ts (B.one_of p.search) rows after t own eta.first (ap (λ (c : Conditional). c.eta) is) q n h))

moves_one : (s : Settings) (p : Progress) (c : Conditional) → Movable (B.advance1 s p c).sources
unfolding B.advance1
moves_one s p c = movable1 (B.one_of p.search) c

adds_one : (setup : Setup) (parameters : Parameters) (p : Progress) (rows : ℕ) (m : Mode) → setup.effects ≡ 1 → is_no_omega (with_parameters setup parameters) ≡ false → B.closed_by
    (B.fit_of setup parameters) p rows ≡ Some m
    → m.term ≡ reads1.term setup (B.settings (B.fit_of setup parameters) p) rows (B.one_of p.search).best
unfolding B.closed_by B.settings
adds_one setup parameters p rows m e o q =
    let fit = B.fit_of setup parameters in
    one_term fit (B.one_of p.search).best rows m (sym (pick_no _ _ _ (one_not_two fit (fit_effects setup parameters ∙ e))) ∙ q)

pub tells1 : Tells inner1 reads1 1
unfolding warm_stored pick B.closed_by B.conditional1 B.settings
tells1 = record {
  starts = starts1;
  modes = λ fit p rows m e q. one_mode fit (B.one_of p.search).best rows m (sym (pick_no _ _ _ (ap (λ (n : ℕ). eqb n 2) e)) ∙ q);
  flat = λ fit p rows e q. one_flat fit (B.one_of p.search).best rows (sym (pick_no _ _ _ (ap (λ (n : ℕ). eqb n 2) e)) ∙ q);
  stores = λ j m b warm o l. get_or-set_same warm j (to_bits binary64 m.eta.first) 0 (omega (arith, l)) ∙ o.first;
  others = λ setup parameters i j d eta warm. let x = get_or-set_other warm j i (to_bits binary64 eta.first) 0 d in cc;
  stays = λ i j d eta warm b h. get_or-set_other warm j i (to_bits binary64 eta.first) 0 d ∙ h;
  adds = adds_one;
  shrinks = λ state n. unfold shrinkage in refl;
  Carried = Carried1;
  begun = begun1;
  same = same1;
  movable = λ fit p eta sums e. subst (λ (x : Advanced). Movable x.sources) (sym (advance_one fit e p eta sums)) (moves_one (B.settings fit p) p (B.conditional1 fit eta sums));
  steps = steps_one;
  ends = λ fit p e d w ts rows h.
      let z = end1 (B.settings fit p) ts (B.one_of p.search) rows (mode_one_lem (request (B.settings fit p) (B.one_of p.search)) (sym (wanted_one fit e p) ∙ w)) h in
      (nth_so rules1 z.0 (λ c m. m ∙ middle_zero (B.settings fit p).eta_bound d.fits_bound d.bound_low d.bound_high), z.1);
}

-- two effects
with_mode : (fit : Fit) (best : Conditional2) (rows : ℕ) (m : Mode) (i : Inverse) → B.closed_with fit best rows i ≡ Some m → OfMode inner2 reads2 m best
unfolding B.closed_with
with_mode fit best rows m (inverted inverse det) e =
    subst (λ (x : Mode). OfMode inner2 reads2 x best) (same_mode e) (record { first = refl; second = refl; nll = refl; square = refl })
with_mode fit best rows m singular e = absurd (not_positive e)

settings_by : (own : Setup) (theta : Pair) (q : Progress) (i : Inverse) → B.settings2 (B.fit_by own theta i) q ≡ record {
  eta_bound = own.eta_bound;
  precision = matrix_of (precision i);
  warm = q.warm;
}
unfolding B.fit_by B.fit_with B.settings2
settings_by own theta q (inverted m det) = refl
settings_by own theta q singular = refl

starts2 : (setup : Setup) (parameters : Parameters) (q : Progress) (warm : List ℕ) (i : ℕ) → setup.effects ≡ 2 → q.warm ≡ warm_of warm 2 i → B.settings2
    (B.fit_of setup parameters) q ≡ reads2.settings setup parameters warm i
unfolding B.fit_of B.fit2 with_parameters warm_of pick
starts2 setup parameters q warm i e v =
    let own = with_parameters setup parameters in
    let fit = pick_yes _ (B.fit2 own parameters.theta) (B.fit_with own parameters.theta B.no_matrix (word 0)) (eq-eqb _ _ e) in
    let first = pick_no _ parameters.omega setup.omega00 (ap (λ (n : ℕ). eqb n 1) e) in
    ap (λ (f : Fit). B.settings2 f q) fit ∙ settings_by own parameters.theta q (inverse_positive (omega_of own)) ∙ cc

-- the determinant that comes with an inverse
det_is : (m i : List (List Float)) (det : Float) → inverse_positive m ≡ inverted i det → determinant m ≡ det
unfolding inverse_positive
det_is m i det e =
    let never : singular ≡ inverted i det → ⊥ = λ q. let z : ◌≡◌ {A = ℕ} 0 1 = cc in omega arith in
    let a = not_first _ _ never e in
    let b = not_first _ _ never a.1 in
    let c = not_first _ _ never b.1 in
    let d = not_first _ _ never c.1 in
    let f = (not_first _ _ never d.1).1 in
    cc

-- the setup's omega has an inverse, and its determinant is in the fit
det_omega : (setup : Setup) (parameters : Parameters) → setup.effects ≡ 2 → is_no_omega (with_parameters setup parameters) ≡ false → (B.fit_of setup parameters).det_omega ≡ determinant
    (omega_of (with_parameters setup parameters))
unfolding B.fit_of B.fit2 with_parameters
det_omega setup parameters e o =
    let own = with_parameters setup parameters in
    let fit : B.fit_of setup parameters ≡ B.fit_by own parameters.theta (inverse_positive (omega_of own)) = pick_yes _ _ _ (eq-eqb _ _ e) in
    ap (λ (f : Fit). f.det_omega) fit ∙ by own (inverse_positive (omega_of own)) refl (two_omega own e o).1.1
  where
    by : (own : Setup) (i : Inverse) → inverse_positive (omega_of own) ≡ i → is_none (inverse_positive (omega_of own)) ≡ false → (B.fit_by own parameters.theta
        (inverse_positive (omega_of own))).det_omega ≡ determinant (omega_of own)
    by own singular q n = absurd (true_not_false (sym (ap is_none q) ∙ n))
    by own (inverted i det) q n = ap (λ (v : Inverse). (B.fit_by own parameters.theta v).det_omega) q ∙ unfold B.fit_by B.fit_with in sym (det_is (omega_of own) i det q)

same_omega : (setup : Setup) (parameters : Parameters) → setup.effects ≡ 2 → omega_of (with_parameters setup parameters) ≡ omega_of setup
unfolding with_parameters
same_omega setup parameters e = ap (λ (x : Float). pair (pair x setup.omega01) (pair setup.omega10 setup.omega11)) (pick_no _ parameters.omega setup.omega00 (ap (λ (n : ℕ). eqb n 1) e))

two_term : (fit : Fit) (best : Conditional2) (rows : ℕ) (m : Mode) (i : Inverse) → inverse_positive (B.curvature_of fit best) ≡ i → B.closed_with fit best rows i ≡ Some m
    → m.term ≡ two *ᶠ best.nll -ᶠ of_int binary64 (pos rows) *ᶠ log2pi +ᶠ dot (pair best.eta.first best.eta.second) (product (B.precision_of fit) (pair best.eta.first best.eta.second))
    +ᶠ log (fit.det_omega *ᶠ determinant (B.curvature_of fit best))
unfolding B.closed_with
two_term fit best rows m singular q e = absurd (not_positive e)
two_term fit best rows m (inverted i det) q e =
    sym (ap (λ (x : Mode). x.term) (same_mode e))
    ∙ ap (λ (d : Float). two *ᶠ best.nll -ᶠ of_int binary64 (pos rows) *ᶠ log2pi +ᶠ dot (pair best.eta.first best.eta.second)
    (product (B.precision_of fit) (pair best.eta.first best.eta.second))
    +ᶠ log (fit.det_omega *ᶠ d)) (sym (det_is (B.curvature_of fit best) i det q))

two_flat : (fit : Fit) (best : Conditional2) (rows : ℕ) (i : Inverse) → inverse_positive (B.curvature_of fit best) ≡ i → B.closed_with fit best rows i ≡ None
    → inverse_positive (B.curvature_of fit best) ≡ singular
unfolding B.closed_with
two_flat fit best rows singular q e = q
two_flat fit best rows (inverted m det) q e = absurd (positive_not e)

-- what an objective's fit does with two effects
module _ (fit : Fit) (e : fit.effects ≡ 2) where
  advance_two : (p : Progress) (eta : Pair) (sums : Sums) → B.advance_by fit p eta sums ≡ B.advance2 (B.settings2 fit p) p (B.conditional2 eta sums)
  unfolding B.advance_by
  advance_two p eta sums = pick_yes _ _ _ (is_two fit e)

mode_two_lem : (q : Request Pair) → B.wants2 q ≡ Asks.Mode → q ≡ Asks.Mode
mode_two_lem (Asks.Point x) e = let z : ◌≡◌ {A = ℕ} 0 1 = cc in absurd (omega arith)
mode_two_lem Asks.Mode e = refl
mode_two_lem (Asks.Refused n) e = let z : ◌≡◌ {A = ℕ} 0 1 = cc in absurd (omega arith)

steps_two : (fit : Fit) (p : Progress) (eta : Pair) (sums : Sums) → fit.effects ≡ 2 → B.wanted_by fit p ≡ Asks.Point eta → (ts : List Trial2) (rows after : ℕ → List ℕ) (t : Trial2)
    → t.point ≡ B.conditional2 eta sums → t.rows ≡ rows 3
    → Moves (B.advance_by fit p eta sums).sources rows after → Carried2 ts (B.two_of p.search) rows → Carried2 (ts ++ (t ∷ [])) (B.two_of (B.advance_by fit p eta sums).progress.search) after
unfolding B.advance2 B.with_search B.conditional2
steps_two fit p eta sums e w ts rows after t is own m h =
    let a = advance_two fit e p eta sums in
    let s = B.settings2 fit p in
    let x = B.two_of p.search in
    let q = point_two (R2.request s x) eta (sym (wanted_two fit e p) ∙ w) in
    let n : Moves (B.sources2 s x (R2.advance s x t.point) t.point) rows after =
    subst (λ (c : Conditional2). Moves (B.sources2 s x (R2.advance s x c) c) rows after) (sym is) (subst (λ (v : Advanced). Moves v.sources rows after) a m) in
    subst (λ (v : Advanced). Carried2 (ts ++ (t ∷ [])) (B.two_of v.progress.search) after) (sym a)
    (subst (λ (c : Conditional2). Carried2 (ts ++ (t ∷ [])) (R2.advance s x c) after) is (step2 s ts x rows t own after eta (ap (λ (c : Conditional2). c.eta) is) q n h))

adds_two : (setup : Setup) (parameters : Parameters) (p : Progress) (rows : ℕ) (m : Mode) → setup.effects ≡ 2 → is_no_omega (with_parameters setup parameters) ≡ false → B.closed_by
    (B.fit_of setup parameters) p rows ≡ Some m
    → m.term ≡ reads2.term setup (B.settings2 (B.fit_of setup parameters) p) rows (B.two_of p.search).best
unfolding B.closed_by B.closed2 B.settings2 R2.curvature sum dot product determinant
adds_two setup parameters p rows m e o q =
    let fit = B.fit_of setup parameters in
    let best = (B.two_of p.search).best in
    let d = det_omega setup parameters e o ∙ ap determinant (same_omega setup parameters e) in
    two_term fit best rows m (inverse_positive (B.curvature_of fit best)) refl (sym (pick_yes _ _ _ (is_two fit (fit_effects setup parameters ∙ e))) ∙ q)
    ∙ ap (λ (x : Float). two *ᶠ best.nll -ᶠ of_int binary64 (pos rows) *ᶠ log2pi +ᶠ dot (pair best.eta.first best.eta.second)
    (product (B.precision_of fit) (pair best.eta.first best.eta.second))
    +ᶠ log (x *ᶠ determinant (B.curvature_of fit best))) d

moves_two : (s : Settings2) (p : Progress) (c : Conditional2) → Movable (B.advance2 s p c).sources
unfolding B.advance2
moves_two s p c = movable2 s (B.two_of p.search) (R2.advance s (B.two_of p.search) c) c

pub tells2 : Tells inner2 reads2 2
unfolding warm_stored pick B.closed_by B.closed2 B.conditional2 B.settings2 R2.curvature sum
tells2 = record {
  starts = starts2;
  modes = λ fit p rows m e q. with_mode fit (B.two_of p.search).best rows m (inverse_positive (B.curvature_of fit (B.two_of p.search).best)) (sym (pick_yes _ _ _ (eq-eqb _ _ e)) ∙ q);
  flat = λ fit p rows e q. two_flat fit (B.two_of p.search).best rows (inverse_positive (B.curvature_of fit (B.two_of p.search).best)) refl (sym (pick_yes _ _ _ (eq-eqb _ _ e)) ∙ q);
  stores = λ j m b warm o l. (
    get_or-set_other (set warm (2 * j) (to_bits binary64 m.eta.first)) (2 * j + 1) (2 * j) (to_bits binary64 m.eta.second) 0 (λ e. omega (arith, e)) ∙ get_or-set_same warm (2 * j)
        (to_bits binary64 m.eta.first) 0 (omega (arith, l)) ∙ o.first,
    get_or-set_same (set warm (2 * j) (to_bits binary64 m.eta.first)) (2 * j + 1) (to_bits binary64 m.eta.second) 0
        (let n = length-set warm (2 * j) (to_bits binary64 m.eta.first) in omega (arith, l, n)) ∙ o.second,
  );
  others = λ setup parameters i j d eta warm. let a = two_others i j d eta warm in let x = a.0 in let y = a.1 in cc;
  stays = λ i j d eta warm b h. let a = two_others i j d eta warm in (a.0 ∙ h.0, a.1 ∙ h.1);
  adds = adds_two;
  shrinks = λ state n. tt;
  Carried = λ st. Carried2;
  begun = λ st. begun2;
  same = λ st. same2;
  movable = λ fit p eta sums e. subst (λ (x : Advanced). Movable x.sources) (sym (advance_two fit e p eta sums)) (moves_two (B.settings2 fit p) p (B.conditional2 eta sums));
  steps = steps_two;
  ends = λ fit p e d w ts rows h.
      end2 (B.settings2 fit p) ts (B.two_of p.search) rows (mode_two_lem (R2.request (B.settings2 fit p) (B.two_of p.search)) (sym (wanted_two fit e p) ∙ w)) h;
}
  where
    two_others : (i j : ℕ) → (i ≡ j → ⊥) → (eta : Pair) (warm : List ℕ) → let v = set (set warm (2 * j) (to_bits binary64 eta.first)) (2 * j + 1) (to_bits binary64 eta.second) in
        (get_or v (2 * i) 0 ≡ get_or warm (2 * i) 0) × (get_or v (2 * i + 1) 0 ≡ get_or warm (2 * i + 1) 0)
    two_others i j d eta warm = (
      past_two warm (2 * j) (2 * j + 1) (to_bits binary64 eta.first) (to_bits binary64 eta.second) (2 * i) (λ e. d (omega (arith, e))) (λ e. omega (arith, e)),
      past_two warm (2 * j) (2 * j + 1) (to_bits binary64 eta.first) (to_bits binary64 eta.second) (2 * i + 1) (λ e. omega (arith, e)) (λ e. d (omega (arith, e))),
    )
