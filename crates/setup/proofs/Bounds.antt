-- The bounds that a passed check gives, for what is computed after it. Assumes nothing.
use Rattle.std.specs.Prelude.{None, Option, Some}
use mathlib.Core.Path.{◌≡◌, sym, subst, ◌∙◌}
use mathlib.Core.Bool.{Bool, true, false}
use mathlib.Core.List.{List, [], ◌∷◌}
use Prim.Native.Nat.{ℕ, ◌+◌, ◌-◌, ◌*◌, ◌≤◌}
use native.Mathlib.Nat.{mul-le-mul}
use native.Mathlib.Omega.{arith}
use borrow.Author.Tests.{ltb-false}
use lib.Dec.{T, ltb, eqb}
use Rattle.float64.specs.Pick.{pick, both, cases}
use Rattle.setup.specs.declared.Setup.{Setup}
use Rattle.setup.specs.Admission.{larger, count_from, count_observations, is_cohort, is_no_shape, within}
use Rattle.setup.specs.declared.Counts.{Counts}

-- where the answer is not that of a test, the test was false
pub not_first : {X : Type 0} {x z : X} (b : Bool) (y : X) → (x ≡ z → ⊥) → pick b x y ≡ z → (b ≡ false) × (y ≡ z)
not_first {X} {x} {z} b y d =
    cases (λ (v : X). v ≡ z → (b ≡ false) × (y ≡ z)) b (λ p e. absurd (d e)) (λ p e. (p, e))

-- ---- the counts
never_within : {n : Counts} → None ≡ Some n → ⊥
never_within e = let z : ◌≡◌ {A = ℕ} 0 1 = cc in omega arith

counted : (counts : List ℕ) (total largest : ℕ) {n : Counts} → total ≤ 100000 → largest ≤ 100000 → count_from total largest counts ≡ Some n → (n.total ≤ 100000) × (n.largest ≤ 100000)
unfolding count_from
counted [] total largest {n} h j e =
    let q : record { total = total; largest = largest } ≡ n = cc in
    subst (λ (m : Counts). (m.total ≤ 100000) × (m.largest ≤ 100000)) q (h, j)
counted (count ∷ rest) total largest h j e =
    let some = not_first (eqb count 0) _ never_within e in
    let few = not_first (ltb (100000 - total) count) _ never_within some.1 in
    let m : count ≤ 100000 - total = ltb-false _ _ few.0 in
    counted rest (total + count) (larger largest count) (omega arith) (both (λ (x : ℕ). x ≤ 100000) (ltb largest count) (let c : count ≤ 100000 = omega arith in c) j) few.1

pub low_counts : {r : Option Counts} {n : Counts} (counts : List ℕ) → r ≡ count_observations counts → r ≡ Some n → (n.total ≤ 100000) × (n.largest ≤ 100000)
unfolding count_observations
low_counts counts e f = counted counts 0 0 (omega arith) (omega arith) (sym e ∙ f)

pub counts_low : {r : Option Counts} {t l : ℕ} (counts : List ℕ) → r ≡ count_observations counts → r ≡ within t l → (t ≤ 100000) × (l ≤ 100000)
counts_low counts e f = low_counts counts e f

-- ---- b is what `is_cohort` answered
pub cohort_low : {b : Bool} (effects subjects total observations : ℕ) → b ≡ is_cohort effects subjects total observations → b ≡ true → (effects ≤ 2) × (subjects ≤ 4096)
unfolding is_cohort
cohort_low effects subjects total observations e t =
    let apart : false ≡ true → ⊥ = λ f. subst T (sym f) tt in
    let some = not_first _ _ apart (sym e ∙ t) in
    let effect = not_first _ _ apart some.1 in
    let subject = not_first _ _ apart effect.1 in
    let few = not_first _ _ apart subject.1 in
    (ltb-false _ _ effect.0, ltb-false _ _ few.0)

-- ---- b is what `is_no_shape` answered
pub shape_low : {b : Bool} (s : Setup) → b ≡ is_no_shape s → b ≡ false → s.k ≤ 100000
unfolding is_no_shape
shape_low s e t =
    let apart : true ≡ false → ⊥ = λ f. subst T f tt in
    let bound = not_first _ _ apart (sym e ∙ t) in
    let tolerance = not_first _ _ apart bound.1 in
    let some = not_first _ _ apart tolerance.1 in
    let narrow = not_first _ _ apart some.1 in
    let kept = not_first _ _ apart narrow.1 in
    ltb-false _ _ (not_first _ _ apart kept.1).0

-- ---- so that the warm words fit a word
pub warm_low : (effects subjects : ℕ) → effects ≤ 2 → subjects ≤ 4096 → effects * subjects ≤ 8192
warm_low effects subjects h j = let m : effects * subjects ≤ 2 * 4096 = mul-le-mul h j in omega arith
