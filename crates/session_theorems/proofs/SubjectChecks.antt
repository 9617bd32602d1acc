-- Where checks 1 to 5 pass of all observations, they pass of one subject's. Assumes nothing.
use Rattle.std.specs.Prelude.{Err, None, Ok, Option, Some}
use mathlib.Core.Path.{◌≡◌, refl, sym, subst, ◌∙◌}
use mathlib.Core.Bool.{true, false}
use mathlib.Core.List.{List, [], ◌∷◌}
use Prim.Native.Nat.{ℕ, zero, suc, ◌+◌, ◌*◌, ◌≤◌, ◌<◌}
use native.Mathlib.Omega.{arith}
use borrow.Author.Tests.{le-ltb, eq-eqb, ne_eqb, ltb-false}
use lib.Dec.{ltb}
use lib.ListN.{get_or, length, take, drop}
use Rattle.float64.specs.Pick.{yes, no, cases}
use Rattle.likelihood.specs.declared.population_focei.Observation.{Observation}
use Rattle.subject.specs.Observations.{is_sound, check_at, check_observation, check_observations, Check}
use Rattle.subject.specs.declared.Position.{Position}
use Rattle.setup.specs.Admission.{count_observations, is_cohort, is_no_omega, is_no_shape, is_short, roomy, admitted, checks_of, checks, within, Admission}
use Rattle.setup.specs.declared.Setup.{Setup}
use Rattle.setup.specs.declared.Lent.{Lent}
use Rattle.setup.proofs.Bounds.{not_first, counts_low}
use Rattle.setup.specs.SubjectChecks.{subject_checks}
use Rattle.session_theorems.proofs.Accepted.{each_count}
use Rattle.session_theorems.proofs.Plain.{true_not_false, false_not_true}
use Rattle.setup.specs.declared.Counts.{Counts}

-- ---- 4: every observation of a list that passed is sound, and so is every one of a part
abbrev Sounds : ℕ → List Observation → Type 0
Sounds width [] = Unit {0}
Sounds width (o ∷ os) = (is_sound o width ≡ true) × Sounds width os

pub record IsSound (c : Check) : Type 0 where
  pub at : Position
  pub is : c ≡ Ok at

module _ (width : ℕ) (counts : List ℕ) where
  stuck : (os : List Observation) (p : Position) → check_observations width counts os (Err p) ≡ Err p
  unfolding check_observation
  stuck [] p = refl
  stuck (o ∷ os) p = stuck os p

  sounds : (os : List Observation) (p q : Position) → check_observations width counts os (Ok p) ≡ Ok q → Sounds width os
  unfolding check_observation check_at
  sounds [] p q e = tt
  sounds (o ∷ os) p q e =
      cases (λ (c : Check). check_observations width counts os c ≡ Ok q → Sounds width (o ∷ os)) (is_sound o width)
      (λ t e. (t, sounds os _ q e)) (λ f e. absurd (let z : Err p ≡ Ok q = sym (stuck os p) ∙ e in let n : ◌≡◌ {A = ℕ} 0 1 = cc in omega arith)) e

  passes : (os : List Observation) (p : Position) → Sounds width os → IsSound (check_observations width counts os (Ok p))
  unfolding check_observation check_at
  passes [] p s = record { at = p; is = refl }
  passes (o ∷ os) p s =
      cases (λ (c : Check). IsSound (check_observations width counts os c)) (is_sound o width) (λ t. passes os _ s.1) (λ f. absurd (true_not_false (sym s.0 ∙ f)))

  first : (n : ℕ) (os : List Observation) → Sounds width os → Sounds width (take n os)
  first zero os s = tt
  first (suc n) [] s = tt
  first (suc n) (o ∷ os) s = (s.0, first n os s.1)

  part : (n m : ℕ) (os : List Observation) → Sounds width os → Sounds width (take n (drop m os))
  part n zero os s = first n os s
  part n (suc m) [] s = first n [] tt
  part n (suc m) (o ∷ os) s = part n m os s.1

  -- wherever the check of the part begins
  pub part_sound : (os : List Observation) (p q from : Position) (n m : ℕ) → check_observations width counts os (Ok p) ≡ Ok q → IsSound
      (check_observations width counts (take n (drop m os)) (Ok from))
  part_sound os p q from n m e = passes (take n (drop m os)) from (part n m os (sounds os p q e))

-- ---- 1 and 5, for a subject's count in place of all
cohort_of : (effects subjects total observations count own : ℕ) → is_cohort effects subjects total observations ≡ true → count ≡ own → true ≡ is_cohort effects subjects count own
unfolding is_cohort
cohort_of effects subjects total observations count own e c =
    let some = not_first _ _ false_not_true e in
    let effect = not_first _ _ false_not_true some.1 in
    let subject = not_first _ _ false_not_true effect.1 in
    let few = not_first _ _ false_not_true subject.1 in
    no _ some.0 (no _ effect.0 (no _ subject.0 (no _ few.0 (sym (eq-eqb _ _ c)))))

module _ (setup : Setup) (subjects total largest count : ℕ) (lent lent' : Lent) (h : count ≤ largest) (k : count ≤ total) where
  -- the same words are lent
  room_of : lent'.work ≡ lent.work → lent'.cache ≡ lent.cache → lent'.warm ≡ lent.warm → lent'.results ≡ lent.results → is_short setup subjects total largest lent ≡ false → false ≡ is_short
      setup subjects count count lent'
  unfolding is_short
  room_of ew ec ea er e =
      let w = not_first (ltb lent.work (12 * largest)) _ true_not_false e in
      let c = not_first (ltb lent.cache (24 * setup.k)) _ true_not_false w.1 in
      let a = not_first (ltb lent.warm (setup.effects * subjects)) _ true_not_false c.1 in
      let wl : 12 * largest ≤ lent.work = ltb-false _ _ w.0 in
      let rl : 2 * total + 3 * subjects ≤ lent.results = ltb-false _ _ a.1 in
      let wd : 12 * count ≤ lent'.work = omega (arith, wl, h, ew) in
      let rd : 2 * count + 3 * subjects ≤ lent'.results = omega (arith, rl, k, er) in
      no _ (le-ltb _ _ wd)
      (no _ (subst (λ (n : ℕ). ltb n (24 * setup.k) ≡ false) (sym ec) c.0)
      (no _ (subst (λ (n : ℕ). ltb n (setup.effects * subjects) ≡ false) (sym ea) a.0)
      (sym (le-ltb _ _ rd))))

-- ---- all of them
module _ (setup : Setup) (counts : List ℕ) (lent lent' : Lent) (check : Check) where
  -- what is told of the whole, where it passes
  pub record Passed : Type 0 where
    pub total : ℕ
    pub largest : ℕ
    pub counted : count_observations counts ≡ within total largest
    pub cohort : is_cohort setup.effects (length counts) total lent.observations ≡ true
    pub omega_in : is_no_omega setup ≡ false
    pub shape_in : is_no_shape setup ≡ false
    pub sound : IsSound check
    pub room : is_short setup (length counts) total largest lent ≡ false

  by_check : (total largest : ℕ) (c : Check) → roomy setup (length counts) total largest lent c ≡ Ok tt → IsSound c × (is_short setup (length counts) total largest lent ≡ false)
  unfolding roomy
  by_check total largest (Err place) q = absurd (let z : ◌≡◌ {A = ℕ} 0 1 = cc in omega arith)
  by_check total largest (Ok place) q =
      (record { at = place; is = refl }, (not_first (is_short setup (length counts) total largest lent) (Ok tt) (λ p. let z : ◌≡◌ {A = ℕ} 0 1 = cc in omega arith) q).0)

  by_cohort : (total largest : ℕ) → count_observations counts ≡ within total largest → is_cohort setup.effects (length counts) total lent.observations ≡ true → admitted setup (length counts) total
      largest lent check ≡ Ok tt → Passed
  unfolding admitted
  by_cohort total largest c h e =
      let o = not_first (is_no_omega setup) _ (λ q. let z : ◌≡◌ {A = ℕ} 0 1 = cc in omega arith) e in
      let s = not_first (is_no_shape setup) _ (λ q. let z : ◌≡◌ {A = ℕ} 0 1 = cc in omega arith) o.1 in
      let r = by_check total largest check s.1 in
      record { total = total; largest = largest; counted = c; cohort = h; omega_in = o.0; shape_in = s.0; sound = r.0; room = r.1 }

  by_counts : (c : Option Counts) → count_observations counts ≡ c → checks_of setup (length counts) lent check c ≡ Ok tt → Passed
  unfolding checks_of
  by_counts (Some n) d e =
      cases (λ (a : Admission). a ≡ Ok tt → Passed) (is_cohort setup.effects (length counts) n.total lent.observations)
      (λ h q. by_cohort n.total n.largest d h q) (λ h q. absurd (let z : ◌≡◌ {A = ℕ} 0 1 = cc in omega arith)) e
  by_counts None d e = absurd (let z : ◌≡◌ {A = ℕ} 0 1 = cc in omega arith)

  pub passed : checks setup counts lent check ≡ Ok tt → Passed
  unfolding checks
  passed e = by_counts (count_observations counts) refl e

  -- then they pass of a subject whose observations are lent, with the same words
  module _ (w : Passed) (subject : ℕ) (inside : subject < length counts) where
    -- the subject's count is at least 1, and at most all
    pub count_in : (1 ≤ get_or counts subject 0) × (get_or counts subject 0 ≤ w.largest) × (w.largest ≤ 100000) × (w.total ≤ 100000)
    unfolding count_observations
    count_in =
        let each = (each_count counts 0 0 w.counted).1 subject inside in
        let low = counts_low {r = count_observations counts} counts refl w.counted in
        (each.0, each.1, low.1, low.0)

    pub subject_passes : (check' : Check) → IsSound check' → get_or counts subject 0 ≤ w.total → get_or counts subject 0 ≡ lent'.observations
        → lent'.work ≡ lent.work → lent'.cache ≡ lent.cache → lent'.warm ≡ lent.warm → lent'.results ≡ lent.results → Ok tt ≡ subject_checks setup counts subject lent' check'
    unfolding subject_checks checks_of admitted roomy
    subject_passes check' sound most lends ew ec ea er =
        let c = get_or counts subject 0 in
        let n = count_in in
        let some : (c ≡ 0) → ⊥ = λ z. omega (arith, n.0) in
        let few : c ≤ 100000 = omega (arith, n.1, n.2) in
        no _ (ne_eqb _ _ some)
        (no _ (le-ltb _ _ few)
        (yes _ (sym (cohort_of setup.effects (length counts) w.total lent.observations c lent'.observations w.cohort lends))
        (no _ w.omega_in (no _ w.shape_in
        (subst (λ (k : Check). Ok tt ≡ roomy setup (length counts) c c lent' k) (sym sound.is)
        (no _ (sym (room_of setup (length counts) w.total w.largest c lent lent' n.1 most ew ec ea er w.room)) refl))))))
