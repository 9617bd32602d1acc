-- What holds of a setup, its counts and what is lent, where checks 1 to 5 have passed. Assumes nothing.
use Rattle.std.specs.Prelude.{Err, None, Ok, Option, Some}
use mathlib.Core.Path.{◌≡◌, refl, sym, ap, subst}
use mathlib.Core.Bool.{true, false}
use mathlib.Core.List.{List, [], ◌∷◌}
use mathlib.Core.Logic.{◌⊎◌, inl, inr, ⊎_elim}
use Prim.Native.Nat.{ℕ, zero, suc, ◌+◌, ◌-◌, ◌*◌, ◌≤◌, ◌<◌}
use native.Mathlib.Nat.{not-suc-le-zero, le_of_suc-le-suc}
use native.Mathlib.Omega.{arith}
use borrow.Author.Tests.{ltb-true, ltb-false, eqb-true}
use lib.Dec.{ltb, eqb}
use lib.ListN.{get_or, length}
use Rattle.float64.specs.Pick.{cases}
use Rattle.work.specs.Work.{most_rows}
use Rattle.setup.specs.Admission.{larger, count_from, count_observations, is_no_omega, is_no_shape, is_short, is_cohort, roomy, admitted, checks_of, checks, within, Admission}
use Rattle.setup.specs.declared.Setup.{Setup}
use Rattle.setup.specs.declared.Lent.{Lent}
use Rattle.setup.proofs.Bounds.{not_first, counts_low, cohort_low}
use Rattle.population.specs.Population.{rows_of}
use Rattle.session_theorems.proofs.Plain.{true_not_false, false_not_true, positive, split}
use Rattle.setup.specs.declared.AdmissionError.TheVariants as A
use Rattle.subject.specs.Observations.{Check}
use Rattle.setup.specs.declared.Counts.{Counts}

pub record Cohort (effects subjects total observations : ℕ) : Type 0 where
  pub one_or_two : (effects ≡ 1) ⊎ (effects ≡ 2)
  pub some : 1 ≤ subjects
  pub adds : total ≡ observations

pub is_cohort_lem : (effects subjects total observations : ℕ) → is_cohort effects subjects total observations ≡ true → Cohort effects subjects total observations
unfolding is_cohort
is_cohort_lem effects subjects total observations q =
    let a = not_first _ _ false_not_true q in
    let b = not_first _ _ false_not_true a.1 in
    let c = not_first _ _ false_not_true b.1 in
    let d = not_first _ _ false_not_true c.1 in
    record { one_or_two = either effects (positive effects a.0) (ltb-false _ _ b.0); some = positive subjects c.0; adds = eqb-true _ _ d.1 }
  where
    either : (n : ℕ) → 1 ≤ n → n ≤ 2 → (n ≡ 1) ⊎ (n ≡ 2)
    either n low high = ⊎_elim (λ (l : n < 2). inl (omega arith)) (λ (l : 2 ≤ n). inr (omega arith)) (split n 2)

-- ---- the counts
pub same_counts : (total largest t l : ℕ) → within total largest ≡ within t l → (total ≡ t) × (largest ≡ l)
same_counts total largest t l e =
    let q : ◌≡◌ {A = Counts} (record { total = total; largest = largest }) (record { total = t; largest = l }) = cc in
    (ap (λ (n : Counts). n.total) q, ap (λ (n : Counts). n.largest) q)

pub each_count : (counts : List ℕ) (total largest : ℕ) {t l : ℕ} → count_from total largest counts ≡ within t l
    → (largest ≤ l) × ((i : ℕ) → i < length counts → (1 ≤ get_or counts i 0) × (get_or counts i 0 ≤ l))
unfolding count_from
each_count [] total largest {t} {l} e = let q : largest ≡ l = (same_counts _ _ _ _ e).1 in (omega arith, λ i h. absurd (not-suc-le-zero h))
each_count (count ∷ rest) total largest {t} {l} e =
    let never : None ≡ within t l → ⊥ = λ q. let z : ◌≡◌ {A = ℕ} 0 1 = cc in omega arith in
    let some = not_first (eqb count 0) _ never e in
    let few = not_first (ltb (most_rows - total) count) _ never some.1 in
    let r = each_count rest (total + count) (larger largest count) few.1 in
    let both : (largest ≤ larger largest count) × (count ≤ larger largest count) = cases (λ (m : ℕ). (largest ≤ m) × (count ≤ m)) (ltb largest count)
    (λ u. let v : largest < count = ltb-true _ _ u in (omega arith, omega arith)) (λ u. let v : count ≤ largest = ltb-false _ _ u in (omega arith, v)) in
    let one : 1 ≤ count = positive count some.0 in
    (omega (arith, both.0, r.0), λ i h. at i h one (omega (arith, both.1, r.0)) r.1)
  where
    at : (i : ℕ) → i < suc (length rest) → 1 ≤ count → count ≤ l → ((j : ℕ) → j < length rest → (1 ≤ get_or rest j 0) × (get_or rest j 0 ≤ l)) → (1 ≤ get_or (count ∷ rest) i 0) ×
        (get_or (count ∷ rest) i 0 ≤ l)
    at zero h a b f = (a, b)
    at (suc i) h a b f = f i (le_of_suc-le-suc h)

-- ---- all that the checks say
pub record Accepts (setup : Setup) (counts : List ℕ) (lent : Lent) : Type 0 where
  pub largest : ℕ
  pub effects : (setup.effects ≡ 1) ⊎ (setup.effects ≡ 2)
  -- the counts add up to the records lent
  pub adds : count_observations counts ≡ within lent.observations largest
  pub all : lent.observations ≤ 100000
  pub some : 1 ≤ length counts
  pub most : length counts ≤ 4096
  pub small : largest ≤ 100000
  pub each : (i : ℕ) → i < length counts → (1 ≤ rows_of counts i) × (rows_of counts i ≤ largest)
  pub omega_in : is_no_omega setup ≡ false
  pub shape_in : is_no_shape setup ≡ false
  pub work_lent : 12 * largest ≤ lent.work
  pub cache_lent : 24 * setup.k ≤ lent.cache
  pub warm_lent : setup.effects * length counts ≤ lent.warm
  pub results_lent : 2 * lent.observations + 3 * length counts ≤ lent.results

pub rows_within : {setup : Setup} {counts : List ℕ} {lent : Lent} → Accepts setup counts lent → (i : ℕ) → i < length counts → (1 ≤ rows_of counts i) × (rows_of counts i ≤ 100000)
rows_within a i l = let e = a.each i l in (e.0, let f = e.1 in omega (arith, f, a.small))

module _ (setup : Setup) (counts : List ℕ) (lent : Lent) (check : Check) where
  rows_are : (l : ℕ) → l ≤ 100000 → (i : ℕ) → (1 ≤ get_or counts i 0) × (get_or counts i 0 ≤ l) → (1 ≤ rows_of counts i) × (rows_of counts i ≤ l)
  unfolding rows_of
  rows_are l m i h = cases (λ (n : ℕ). (1 ≤ n) × (n ≤ l)) (ltb (get_or counts i 0) most_rows) (λ u. h) (λ u. let v : most_rows ≤ get_or counts i 0 = ltb-false _ _ u in (omega arith, omega (arith, h.1, v)))

  room_lent : (subjects total largest : ℕ) → is_short setup subjects total largest lent ≡ false → (12 * largest ≤ lent.work) × (24 * setup.k ≤ lent.cache) × (setup.effects * subjects ≤ lent.warm)
      × (2 * total + 3 * subjects ≤ lent.results)
  unfolding is_short
  room_lent subjects total largest e =
      let w = not_first (ltb lent.work (12 * largest)) _ true_not_false e in
      let c = not_first (ltb lent.cache (24 * setup.k)) _ true_not_false w.1 in
      let v = not_first (ltb lent.warm (setup.effects * subjects)) _ true_not_false c.1 in
      (ltb-false _ _ w.0, ltb-false _ _ c.0, ltb-false _ _ v.0, ltb-false _ _ v.1)

  by_check : (total largest : ℕ) (k : Check) → roomy setup (length counts) total largest lent k ≡ Ok tt → is_short setup (length counts) total largest lent ≡ false
  unfolding roomy
  by_check total largest (Err place) q = absurd (let z : ◌≡◌ {A = ℕ} 0 1 = cc in omega arith)
  by_check total largest (Ok place) q = (not_first (is_short setup (length counts) total largest lent) (Ok tt) (λ p. let z : ◌≡◌ {A = ℕ} 0 1 = cc in omega arith) q).0

  passed : (total largest : ℕ) → count_observations counts ≡ within total largest → is_cohort setup.effects (length counts) total lent.observations ≡ true
      → admitted setup (length counts) total largest lent check ≡ Ok tt → Accepts setup counts lent
  unfolding admitted count_observations
  passed total largest c h e =
      let never2 : ◌≡◌ {A = Admission} (Err (A.Refused 2)) (Ok tt) → ⊥ = λ q. let z : ◌≡◌ {A = ℕ} 0 1 = cc in omega arith in
      let never3 : ◌≡◌ {A = Admission} (Err (A.Refused 3)) (Ok tt) → ⊥ = λ q. let z : ◌≡◌ {A = ℕ} 0 1 = cc in omega arith in
      let o = not_first (is_no_omega setup) _ never2 e in
      let s = not_first (is_no_shape setup) _ never3 o.1 in
      let r = room_lent (length counts) total largest (by_check total largest check s.1) in
      let low = counts_low {r = count_observations counts} counts refl c in
      let cohort = cohort_low {b = true} setup.effects (length counts) total lent.observations (sym h) refl in
      let f = each_count counts 0 0 c in
      let g = is_cohort_lem setup.effects (length counts) total lent.observations h in
      record {
        largest = largest;
        effects = g.one_or_two;
        adds = subst (λ (n : ℕ). count_observations counts ≡ within n largest) g.adds c;
        all = subst (λ (n : ℕ). n ≤ 100000) g.adds low.0;
        some = g.some;
        most = cohort.1;
        small = low.1;
        each = λ i l. rows_are largest low.1 i (f.1 i l);
        omega_in = o.0;
        shape_in = s.0;
        work_lent = r.0;
        cache_lent = r.1;
        warm_lent = r.2;
        results_lent = subst (λ (n : ℕ). 2 * n + 3 * length counts ≤ lent.results) g.adds r.3;
      }

  by_counts : (c : Option Counts) → count_observations counts ≡ c → checks_of setup (length counts) lent check c ≡ Ok tt → Accepts setup counts lent
  unfolding checks_of
  by_counts (Some n) d e =
      cases (λ (a : Admission). a ≡ Ok tt → Accepts setup counts lent) (is_cohort setup.effects (length counts) n.total lent.observations)
      (λ h q. passed n.total n.largest d h q) (λ h q. absurd (let z : ◌≡◌ {A = ℕ} 0 1 = cc in omega arith)) e
  by_counts None d e = absurd (let z : ◌≡◌ {A = ℕ} 0 1 = cc in omega arith)

  pub accepts : checks setup counts lent check ≡ Ok tt → Accepts setup counts lent
  unfolding checks
  accepts e = by_counts (count_observations counts) refl e
