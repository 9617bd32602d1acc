-- An objective whose parameters passed the checks gives its searches settings of document 01's domain. Assumes nothing.
use mathlib.Core.Path.{◌≡◌, refl, sym, ap, subst, ◌∙◌}
use mathlib.Core.Bool.{Bool, true, false}
use mathlib.Core.List.{List}
use Prim.Native.Nat.{ℕ}
use native.Mathlib.Omega.{arith}
use borrow.Author.Tests.{eq-eqb}
use lib.Dec.{T, eqb}
use lib.Ieee.{Float, binary64, fits, le, eq, ne}
use lib.Ieee.Scale.{finite}
use Rattle.float64.specs.Arithmetic.{word, edge}
use Rattle.float64.specs.Float64.{nonfinite}
use Rattle.float64.specs.Pick.{pick, cases, pick_yes, pick_no}
use Rattle.float64.proofs.Order.{of_true}
use Rattle.matrix.specs.Matrix.{pair, entry, Inverse, some, none, inverse, inverse_positive}
use Rattle.mode_theorems.specs.History as H1
use Rattle.mode_theorems.specs.History2 as H2
use Rattle.mode_theorems.proofs.Tolerance.{tolerance_low_lem, tolerance_high_lem}
use Rattle.setup.specs.Admission.{is_beyond, is_no_variance, omega_of, is_none, is_no_omega, is_no_tolerance, is_no_shape, with_parameters}
use Rattle.setup.specs.declared.Setup.{Setup}
use Rattle.setup.specs.declared.Parameters.{Parameters}
use Rattle.setup.proofs.Bounds.{not_first}
use Rattle.search.specs.Subjects as B
use Rattle.search.specs.declared.Fit.{Fit}
use Rattle.search.specs.declared.Progress.{Progress}
use Rattle.session_theorems.proofs.Plain.{true_not_false, not_not}

-- ---- ranges
within : (x low high : Float) → is_beyond x low high ≡ false → T (le low x) × T (le x high)
unfolding is_beyond
within x low high e =
    cases (λ (b : Bool). b ≡ false → T (le low x) × T (le x high)) (le low x)
    (λ l. cases (λ (b : Bool). b ≡ false → T (le low x) × T (le x high)) (le x high) (λ h q. (of_true _ l, of_true _ h)) (λ h q. absurd (true_not_false q)))
    (λ l q. absurd (true_not_false q)) e

variance : (x : Float) → is_no_variance x ≡ false → T (le (word 0x3eb0_0000_0000_0000) x) × T (le x (word 0x4130_0000_0000_0000))
unfolding is_no_variance
variance x e = within x _ _ e

-- eta_bound, and a finite tolerance
shape : (setup : Setup) → is_no_shape setup ≡ false → (T (le (word 0x3f50_0000_0000_0000) setup.eta_bound) × T (le setup.eta_bound edge)) × T (finite setup.gradient_tolerance)
unfolding is_no_shape is_no_tolerance
shape setup e =
    let b = not_first _ _ true_not_false e in
    let t = not_first (is_no_tolerance setup.gradient_tolerance) _ true_not_false b.1 in
    (within _ _ _ b.0, not_not (finite setup.gradient_tolerance) (not_first (nonfinite setup.gradient_tolerance) _ true_not_false t.0).0)

first_omega : (setup : Setup) → is_no_omega setup ≡ false → is_no_variance setup.omega00 ≡ false
unfolding is_no_omega
first_omega setup e = (not_first _ _ true_not_false e).0

-- ---- one effect
pub domain1 : (setup : Setup) (parameters : Parameters) (p : Progress) → setup.effects ≡ 1 → T (fits binary64 setup.eta_bound) → is_no_omega (with_parameters setup parameters) ≡ false → is_no_shape
    (with_parameters setup parameters) ≡ false
    → T (fits binary64 p.warm.first) → H1.Domain (B.settings (B.fit_of setup parameters) p)
unfolding B.fit_of B.fit_with B.settings with_parameters
domain1 setup parameters p e f o s w =
    let own = with_parameters setup parameters in
    let fit : B.fit_of setup parameters ≡ B.fit_with own parameters.theta B.no_matrix (word 0) = pick_no _ _ _ (ap (λ (n : ℕ). eqb n 2) e) in
    let v = variance own.omega00 (first_omega own o) in
    let b = shape own s in
    subst (λ (x : Fit). H1.Domain (B.settings x p)) (sym fit) (record {
      fits_bound = f;
      bound_low = b.0.0;
      bound_high = b.0.1;
      omega_low = v.0;
      omega_high = v.1;
      tolerance_low = tolerance_low_lem _ b.1;
      tolerance_high = tolerance_high_lem _ b.1;
      fits_warm = w;
    })

-- ---- two effects
matrix_of_lem : (m : List (List Float)) (det : Float) → pair (pair (entry (inverse m det) 0 0) (entry (inverse m det) 0 1)) (pair (entry (inverse m det) 1 0) (entry (inverse m det) 1 1)) ≡ inverse m det
unfolding inverse
matrix_of_lem m det = refl

some_is : (m i : List (List Float)) (det : Float) → inverse_positive m ≡ some i det → i ≡ inverse m det
unfolding inverse_positive
some_is m i det e =
    let never : none ≡ some i det → ⊥ = λ q. let z : ◌≡◌ {A = ℕ} 0 1 = cc in omega arith in
    let a = not_first _ _ never e in
    let b = not_first _ _ never a.1 in
    let c = not_first _ _ never b.1 in
    let d = not_first _ _ never c.1 in
    let f = (not_first _ _ never d.1).1 in
    cc

pub two_omega : (setup : Setup) → setup.effects ≡ 2 → is_no_omega setup ≡ false
    → (is_no_variance setup.omega11 ≡ false) × ((ne setup.omega01 setup.omega10 ≡ false) × (is_none (inverse_positive (omega_of setup)) ≡ false))
unfolding is_no_omega
two_omega setup e o =
    let a = not_first _ _ true_not_false o in
    let two : eqb setup.effects 1 ≡ false = ap (λ (n : ℕ). eqb n 1) e in
    let b : pick (is_no_variance setup.omega11) true (pick (ne setup.omega01 setup.omega10) true (is_none (inverse_positive (omega_of setup)))) ≡ false = sym (pick_no _ _ _ two) ∙ a.1 in
    let c = not_first _ _ true_not_false b in
    let d = not_first _ _ true_not_false c.1 in
    (c.0, (d.0, d.1))

eq_of : (x y : Float) → ne x y ≡ false → T (eq x y)
unfolding ne
eq_of x y e = not_not (eq x y) e

pub domain2 : (setup : Setup) (parameters : Parameters) (p : Progress) → setup.effects ≡ 2 → is_no_omega (with_parameters setup parameters) ≡ false
    → (omega : List (List Float)) × H2.Accepted omega (B.settings2 (B.fit_of setup parameters) p)
unfolding B.fit_of B.fit2 B.fit_by B.fit_with B.settings2 with_parameters
domain2 setup parameters p e o =
    let own = with_parameters setup parameters in
    let fit : B.fit_of setup parameters ≡ B.fit_by own parameters.theta (inverse_positive (omega_of own)) = pick_yes _ _ _ (eq-eqb _ _ e) in
    let t = two_omega own e o in
    accepted own (first_omega own o) t (inverse_positive (omega_of own)) refl fit
  where
    accepted : (own : Setup) → is_no_variance own.omega00 ≡ false → (is_no_variance own.omega11 ≡ false) × ((ne own.omega01 own.omega10 ≡ false) ×
        (is_none (inverse_positive (omega_of own)) ≡ false))
        → (i : Inverse) → inverse_positive (omega_of own) ≡ i → B.fit_of setup parameters ≡ B.fit_by own parameters.theta (inverse_positive (omega_of own))
        → (omega : List (List Float)) × H2.Accepted omega (B.settings2 (B.fit_of setup parameters) p)
    accepted own v t none q fit = absurd (true_not_false (sym (ap is_none q) ∙ t.1.1))
    accepted own v t (some i det) q fit =
        let j = some_is (omega_of own) i det q in
        let m : i ≡ pair (pair (entry i 0 0) (entry i 0 1)) (pair (entry i 1 0) (entry i 1 1)) =
        subst (λ (z : List (List Float)). z ≡ pair (pair (entry z 0 0) (entry z 0 1)) (pair (entry z 1 0) (entry z 1 1))) (sym j) (sym (matrix_of_lem (omega_of own) det)) in
        let a = variance own.omega00 v in
        let b = variance own.omega11 t.0 in (
          omega_of own,
          subst (λ (x : Fit). H2.Accepted (omega_of own) (B.settings2 x p)) (sym (fit ∙ ap (B.fit_by own parameters.theta) q)) (record {
            low0 = a.0;
            high0 = a.1;
            low1 = b.0;
            high1 = b.1;
            symmetric = eq_of _ _ t.1.0;
            det = det;
            inverse = q ∙ ap (λ (z : List (List Float)). some z det) m;
          }),
        )
