-- The ways through the code: one law for each, over plain variables. Assumes nothing.
use Rattle.std.specs.Prelude.{Err, None, Ok, Option, Some, is_some, cond, ok_or, not, T}
use mathlib.Core.Path.{◌≡◌, refl, sym, ap, subst, ◌∙◌}
use mathlib.Core.Bool.{Bool, true, false}
use mathlib.Core.List.{List, ◌∷◌}
use Prim.Native.Nat.{ℕ, suc, ◌+◌, ◌-◌, ◌*◌, ◌≤◌, ◌<◌}
use native.Mathlib.Numerals.{add-one}
use borrow.Author.Tests.{lt-ltb, le-ltb, eq-eqb, ne_eqb, ltb-true, ltb-false}
use lib.Dec.{ltb, eqb}
use lib.ListN.{get_or, drop, length, drop_of_length-le}
use lib.Seq.{drop-cons}
use lib.Ieee.{Float, le, lt, ne}
use Rattle.std.proofs.Common.{arith, Less, Equal, Greater}
use Rattle.std.specs.Ordering.{is_lt, nat_cmp, ord_max}
use Rattle.float64.specs.Arithmetic.{word, edge}
use Rattle.float64.specs.Float64.{nonfinite}
use Rattle.float64.specs.Pick.{pick, cases, yes, no, yes_of, no_of}
use Rattle.matrix.specs.Matrix.{answer, inverse_positive}
use Rattle.cache.specs.Cache.{row_words}
use Rattle.work.specs.Work.{most_subjects, most_rows}
use Rattle.subject.specs.declared.Position.{Position}
use Rattle.setup.specs.declared.Setup.{Setup}
use Rattle.setup.specs.declared.Parameters.{Parameters}
use Rattle.setup.specs.declared.Lent.{Lent}
use Rattle.setup.specs.Admission.{is_beyond, larger, count_from, count_observations, is_cohort, is_no_variance, omega_of, is_none, is_no_omega, is_no_override, is_no_tolerance, is_no_shape, is_short, roomy, within, Admission}
use Rattle.setup.specs.Admission.{admitted, checks_of, checks, with_parameters}
use Rattle.setup.specs.declared.AdmissionError.{AdmissionError}
use Rattle.setup.specs.declared.AdmissionError.TheVariants.{Refused, Unsound}
use Rattle.subject.specs.Observations.{Check}
use Rattle.subject.proofs.Paths.{missing_of}
use Rattle.setup.specs.declared.Counts.{Counts}

-- ---- a range
inverted_test : (b : Bool) → not b ≡ pick b false true
unfolding pick
inverted_test true = refl
inverted_test false = refl

module _ (x low high : Float) where
  pub too_low : le low x ≡ false → not (le low x) ≡ is_beyond x low high
  unfolding is_beyond
  too_low f = no _ f (ap not f)

  pub high_enough : le low x ≡ true → not (le x high) ≡ is_beyond x low high
  unfolding is_beyond
  high_enough t = yes _ t (inverted_test (le x high))

-- ---- the larger of two, as `max` has it
by_tests : (p q : Bool) (a b : ℕ) → cond (is_lt (cond p Less (cond q Equal Greater))) a b ≡ cond p a b
by_tests true q a b = refl
by_tests false true a b = refl
by_tests false false a b = refl

module _ (a b : ℕ) where
  not_smaller : (p : Bool) → ltb b a ≡ p → b ≤ a → cond p a b ≡ a
  not_smaller true e l = refl
  not_smaller false e l = let m : a ≤ b = ltb-false _ _ e in omega arith

  pub larger_of : {m : ℕ} → m ≡ ord_max nat_cmp a b → m ≡ larger a b
  larger_of e =
      e ∙ by_tests (ltb b a) (eqb b a) a b
      ∙ cases (λ (x : ℕ). cond (ltb b a) a b ≡ x) (ltb a b)
      (λ t. let l : a < b = ltb-true _ _ t in let m : a ≤ b = omega arith in rw (le-ltb b a m)) (λ f. not_smaller _ refl (ltb-false _ _ f))

-- ---- the counts, at subject i
module _ (counts : List ℕ) (total largest i : ℕ) where
  pub all_counted : length counts ≤ i → within total largest ≡ count_from total largest (drop i counts)
  unfolding count_from
  all_counted h = sym (ap (count_from total largest) (drop_of_length-le counts h))

  module _ (h : i < length counts) where
    here : count_from total largest (get_or counts i 0 ∷ drop (suc i) counts) ≡ count_from total largest (drop i counts)
    here = sym (ap (count_from total largest) (drop-cons counts i 0 h))

    pub counts_none : get_or counts i 0 ≡ 0 → None ≡ count_from total largest (drop i counts)
    unfolding count_from
    counts_none e = yes _ (eq-eqb _ _ e) refl ∙ here

    pub counts_too_many : (get_or counts i 0 ≡ 0 → ⊥) → most_rows - total < get_or counts i 0 → None ≡ count_from total largest (drop i counts)
    unfolding count_from
    counts_too_many d l = no _ (ne_eqb _ _ d) (yes _ (lt-ltb _ _ l) refl) ∙ here

    -- m is the largest so far
    pub counts_on : {m : ℕ} → (get_or counts i 0 ≡ 0 → ⊥) → get_or counts i 0 ≤ most_rows - total → m ≡ larger largest (get_or counts i 0) → count_from (total + get_or counts i 0) m (drop (i + 1) counts) ≡
        count_from total largest (drop i counts)
    unfolding count_from
    counts_on d l e =
        no _ (ne_eqb _ _ d) (no _ (le-ltb _ _ l) (λ j. count_from (total + get_or counts i 0) (e j) (drop (add-one i j) counts))) ∙ here

-- ---- check 1
module _ (effects subjects total observations : ℕ) where
  pub no_effect : effects ≡ 0 → false ≡ is_cohort effects subjects total observations
  unfolding is_cohort
  no_effect e = yes _ (eq-eqb _ _ e) refl

  module _ (some : effects ≡ 0 → ⊥) where
    pub many_effects : 2 < effects → false ≡ is_cohort effects subjects total observations
    unfolding is_cohort
    many_effects h = no _ (ne_eqb _ _ some) (yes _ (lt-ltb _ _ h) refl)

    module _ (few : effects ≤ 2) where
      pub no_subject : subjects ≡ 0 → false ≡ is_cohort effects subjects total observations
      unfolding is_cohort
      no_subject e = no _ (ne_eqb _ _ some) (no _ (le-ltb _ _ few) (yes _ (eq-eqb _ _ e) refl))

      module _ (subject : subjects ≡ 0 → ⊥) where
        pub many_subjects : most_subjects < subjects → false ≡ is_cohort effects subjects total observations
        unfolding is_cohort
        many_subjects h = no _ (ne_eqb _ _ some) (no _ (le-ltb _ _ few) (no _ (ne_eqb _ _ subject) (yes _ (lt-ltb _ _ h) refl)))

        pub adds_up : subjects ≤ most_subjects → eqb total observations ≡ is_cohort effects subjects total observations
        unfolding is_cohort
        adds_up h = no _ (ne_eqb _ _ some) (no _ (le-ltb _ _ few) (no _ (ne_eqb _ _ subject) (no _ (le-ltb _ _ h) refl)))

-- ---- check 2; b and d are what `is_no_variance` answered
no_inverse_of : (m : List (List Float)) (r : Option Float) (v : Bool) → is_some r ≡ not v → v ≡ is_none (answer m r)
unfolding answer
no_inverse_of m None true q = refl
no_inverse_of m None false q = absurd (subst T (sym q) tt)
no_inverse_of m (Some det) true q = absurd (subst T q tt)
no_inverse_of m (Some det) false q = refl

module _ (s : Setup) {b : Bool} (e : b ≡ is_no_variance s.omega00) where
  pub no_variance : b ≡ true → true ≡ is_no_omega s
  unfolding is_no_omega
  no_variance t = yes_of _ e t refl

  module _ (t : b ≡ false) where
    pub one_effect : s.effects ≡ 1 → false ≡ is_no_omega s
    unfolding is_no_omega
    one_effect q = no_of _ e t (yes _ (eq-eqb _ _ q) refl)

    module _ (two : s.effects ≡ 1 → ⊥) {d : Bool} (f : d ≡ is_no_variance s.omega11) where
      pub no_second_variance : d ≡ true → true ≡ is_no_omega s
      unfolding is_no_omega
      no_second_variance u = no_of _ e t (no _ (ne_eqb _ _ two) (yes_of _ f u refl))

      module _ (u : d ≡ false) where
        pub not_symmetric : ne s.omega01 s.omega10 ≡ true → true ≡ is_no_omega s
        unfolding is_no_omega
        not_symmetric g = no_of _ e t (no _ (ne_eqb _ _ two) (no_of _ f u (yes _ g refl)))

        -- r is what `inverse_positive` answered, v what `is_none` did
        pub inverted : (r : Option Float) {v : Bool} → ne s.omega01 s.omega10 ≡ false → answer (omega_of s) r ≡ inverse_positive (omega_of s) → is_some r ≡ not v → v ≡ is_no_omega s
        unfolding is_no_omega
        inverted r g a q = no_of _ e t (no _ (ne_eqb _ _ two) (no_of _ f u (no _ g (no_inverse_of _ r _ q ∙ ap is_none a))))

-- ---- check 3: the override; b is what `is_nonfinite` answered
module _ (effects : ℕ) (sd : Option Float) where
  pub own : sd ≡ None → false ≡ is_no_override effects sd
  unfolding is_no_override
  own e = sym (ap (is_no_override effects) e)

  module _ {additive : Float} (e : sd ≡ Some additive) where
    overridden : {z : Bool} → z ≡ is_no_override effects (Some additive) → z ≡ is_no_override effects sd
    overridden q = q ∙ sym (ap (is_no_override effects) e)

    pub two_effects : effects ≡ 2 → true ≡ is_no_override effects sd
    unfolding is_no_override
    two_effects q = overridden (yes _ (eq-eqb _ _ q) refl)

    module _ (one : effects ≡ 2 → ⊥) {b : Bool} (f : b ≡ nonfinite additive) where
      pub infinite : b ≡ true → true ≡ is_no_override effects sd
      unfolding is_no_override
      infinite t = overridden (no _ (ne_eqb _ _ one) (yes_of _ f t refl))

      pub finite : b ≡ false → lt additive (word 0) ≡ is_no_override effects sd
      unfolding is_no_override
      finite t = overridden (no _ (ne_eqb _ _ one) (no_of _ f t refl))

-- ---- check 3: the tolerance; b is what `is_nonfinite` answered
module _ (x : Float) {b : Bool} (e : b ≡ nonfinite x) where
  pub infinite_tolerance : b ≡ true → true ≡ is_no_tolerance x
  unfolding is_no_tolerance
  infinite_tolerance t = yes_of _ e t refl

  pub finite_tolerance : b ≡ false → le x (word 0) ≡ is_no_tolerance x
  unfolding is_no_tolerance
  finite_tolerance t = no_of _ e t refl

-- ---- check 3; b is what `is_beyond` answered, d what `is_no_tolerance` did
module _ (s : Setup) {b : Bool} (e : b ≡ is_beyond s.eta_bound (word 0x3f50_0000_0000_0000) edge) where
  pub no_bound : b ≡ true → true ≡ is_no_shape s
  unfolding is_no_shape
  no_bound t = yes_of _ e t refl

  module _ (t : b ≡ false) {d : Bool} (f : d ≡ is_no_tolerance s.gradient_tolerance) where
    pub no_tolerance : d ≡ true → true ≡ is_no_shape s
    unfolding is_no_shape
    no_tolerance u = no_of _ e t (yes_of _ f u refl)

    module _ (u : d ≡ false) where
      pub no_output : s.width ≡ 0 → true ≡ is_no_shape s
      unfolding is_no_shape
      no_output q = no_of _ e t (no_of _ f u (yes _ (eq-eqb _ _ q) refl))

      module _ (some : s.width ≡ 0 → ⊥) where
        pub too_wide : 64 < s.width → true ≡ is_no_shape s
        unfolding is_no_shape
        too_wide h = no_of _ e t (no_of _ f u (no _ (ne_eqb _ _ some) (yes _ (lt-ltb _ _ h) refl)))

        module _ (narrow : s.width ≤ 64) where
          pub none_kept : s.k ≡ 0 → true ≡ is_no_shape s
          unfolding is_no_shape
          none_kept q = no_of _ e t (no_of _ f u (no _ (ne_eqb _ _ some) (no _ (le-ltb _ _ narrow) (yes _ (eq-eqb _ _ q) refl))))

          module _ (kept : s.k ≡ 0 → ⊥) where
            pub too_many_kept : most_rows < s.k → true ≡ is_no_shape s
            unfolding is_no_shape
            too_many_kept h =
                no_of _ e t (no_of _ f u (no _ (ne_eqb _ _ some) (no _ (le-ltb _ _ narrow) (no _ (ne_eqb _ _ kept) (yes _ (lt-ltb _ _ h) refl)))))

            pub shape : {r : Bool} → s.k ≤ most_rows → r ≡ is_no_override s.effects s.additive_sd → r ≡ is_no_shape s
            unfolding is_no_shape
            shape h q =
                no_of _ e t (no_of _ f u (no _ (ne_eqb _ _ some) (no _ (le-ltb _ _ narrow) (no _ (ne_eqb _ _ kept) (no _ (le-ltb _ _ h) q)))))

-- ---- check 5
module _ (s : Setup) (subjects total largest : ℕ) (lent : Lent) where
  pub little_work : lent.work < 4 * row_words * largest → true ≡ is_short s subjects total largest lent
  unfolding is_short
  little_work h = yes _ (lt-ltb _ _ h) refl

  module _ (work : 4 * row_words * largest ≤ lent.work) where
    pub little_cache : lent.cache < 24 * s.k → true ≡ is_short s subjects total largest lent
    unfolding is_short
    little_cache h = no _ (le-ltb _ _ work) (yes _ (lt-ltb _ _ h) refl)

    module _ (cache : 24 * s.k ≤ lent.cache) where
      pub little_warm : lent.warm < s.effects * subjects → true ≡ is_short s subjects total largest lent
      unfolding is_short
      little_warm h = no _ (le-ltb _ _ work) (no _ (le-ltb _ _ cache) (yes _ (lt-ltb _ _ h) refl))

      pub rest_of_words : s.effects * subjects ≤ lent.warm → ltb lent.results (2 * total + 3 * subjects) ≡ is_short s subjects total largest lent
      unfolding is_short
      rest_of_words h = no _ (le-ltb _ _ work) (no _ (le-ltb _ _ cache) (no _ (le-ltb _ _ h) refl))

-- ---- checks 2 to 5; b, d and r are what `is_no_omega`, `is_no_shape` and `is_short` answered
module _ (s : Setup) (subjects total largest : ℕ) (lent : Lent) (check : Check) {b : Bool} (e : b ≡ is_no_omega s) where
  pub fails_2 : b ≡ true → Err (Refused 2) ≡ admitted s subjects total largest lent check
  unfolding admitted
  fails_2 t = yes_of _ e t refl

  module _ (t : b ≡ false) {d : Bool} (f : d ≡ is_no_shape s) where
    pub fails_3 : d ≡ true → Err (Refused 3) ≡ admitted s subjects total largest lent check
    unfolding admitted
    fails_3 u = no_of _ e t (yes_of _ f u refl)

    module _ (u : d ≡ false) where
      shaped : {c : Check} {z : Admission} → check ≡ c → z ≡ roomy s subjects total largest lent c → z ≡ admitted s subjects total largest lent check
      unfolding admitted
      shaped g q = no_of _ e t (no_of _ f u (q ∙ sym (ap (roomy s subjects total largest lent) g)))

      pub fails_4 : {place : Position} → check ≡ Err place → Err (Unsound place) ≡ admitted s subjects total largest lent check
      unfolding roomy
      fails_4 g = shaped g refl

      module _ {place : Position} (g : check ≡ Ok place) {r : Bool} (h : r ≡ is_short s subjects total largest lent) where
        pub fails_5 : r ≡ true → Err (Refused 5) ≡ admitted s subjects total largest lent check
        unfolding roomy
        fails_5 v = shaped g (yes_of _ h v refl)

        pub passes : r ≡ false → Ok tt ≡ admitted s subjects total largest lent check
        unfolding roomy
        passes v = shaped g (no_of _ h v refl)

-- ---- the checks where the counts are within the domain; b is what `is_cohort` answered
module _ (s : Setup) (subjects : ℕ) (n : Counts) (lent : Lent) (check : Check) {b : Bool} (e : b ≡ is_cohort s.effects subjects n.total lent.observations) where
  pub no_cohort_lem : b ≡ false → Err (Refused 1) ≡ checks_of s subjects lent check (within n.total n.largest)
  unfolding checks_of
  no_cohort_lem t = no_of _ e t refl

  pub cohort : {a : Admission} → b ≡ true → a ≡ admitted s subjects n.total n.largest lent check → a ≡ checks_of s subjects lent check (within n.total n.largest)
  unfolding checks_of
  cohort t q = yes_of _ e t q

-- ---- all checks; r is what `count_observations` answered
module _ (s : Setup) (counts : List ℕ) (lent : Lent) (check : Check) {r : Option Counts} (e : r ≡ count_observations counts) where
  from : {v : Option Counts} {z : Admission} → r ≡ v → z ≡ checks_of s (length counts) lent check v → z ≡ checks s counts lent check
  unfolding checks
  from f q = q ∙ ap (checks_of s (length counts) lent check) (sym f ∙ e)

  pub outside : {error : AdmissionError} → ok_or r (Refused 1) ≡ Err error → Err error ≡ checks s counts lent check
  unfolding checks_of
  outside w = let m = missing_of r w in ap Err (sym m.1) ∙ from m.0 refl

  pub counted : {n : Counts} {a : Admission} → r ≡ Some n → a ≡ checks_of s (length counts) lent check (within n.total n.largest) → a ≡ checks s counts lent check
  counted f q = from f q

-- ---- an objective's setup
abbrev objective : Setup → Parameters → Float → Setup
objective s p omega = record {
  effects = s.effects;
  omega00 = omega;
  omega01 = s.omega01;
  omega10 = s.omega10;
  omega11 = s.omega11;
  eta_bound = s.eta_bound;
  gradient_tolerance = s.gradient_tolerance;
  width = s.width;
  k = s.k;
  additive_sd = p.additive_sd;
  output_budget = s.output_budget;
  max_evaluations = s.max_evaluations;
}

module _ (s : Setup) (p : Parameters) where
  pub own_omega : s.effects ≡ 1 → objective s p p.omega ≡ with_parameters s p
  unfolding with_parameters
  own_omega e = ap (objective s p) (yes _ (eq-eqb _ _ e) refl)

  pub same_omega : (s.effects ≡ 1 → ⊥) → objective s p s.omega00 ≡ with_parameters s p
  unfolding with_parameters
  same_omega d = ap (objective s p) (no _ (ne_eqb _ _ d) refl)
