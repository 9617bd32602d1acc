-- How long the texts and words of this crate are, for every caller. Assumes nothing.
use mathlib.Core.Path.{◌≡◌, refl, ap}
use mathlib.Core.List.{List, [], ◌∷◌}
use Prim.Native.Nat.{ℕ, zero, suc, ◌+◌, ◌-◌, ◌*◌, ◌%◌, ◌≤◌, ◌<◌}
use native.Mathlib.Omega.{arith}
use borrow.Author.Tests.{ltb-true, ltb-false, eqb-true, ne_eqb}
use lib.Dec.{eqb, ltb}
use lib.Ieee.{Float}
use lib.ListN.{length}
use Rattle.float64.specs.Answer.{Answer, given}
use Rattle.float64.specs.Pick.{pick, cases, pick_no}
use Rattle.focei_records.specs.Records.{records, subject_at, reserved_at, no_cohort, cohort_from, cohort, count_from, counts_from, counts, observation_at, observations_from, observations, row_at}
use Rattle.focei_records.specs.Records.{replied_from, reply}

-- ---- the counts: one for each subject
counts_from_lem : (left : ℕ) (input : List ℕ) (s : ℕ) → length (counts_from left input s) ≡ left
unfolding counts_from
counts_from_lem zero input s = refl
counts_from_lem (suc left) input s = ap suc (counts_from_lem left input (s + 1))

pub counts_length : (input : List ℕ) (n : ℕ) → length (counts input n) ≡ n
unfolding counts
counts_length input n = counts_from_lem n input 0

-- ---- the observations: five words for each record
observations_from_lem : (left : ℕ) (input : List ℕ) (i : ℕ) → length (observations_from left input i) ≡ 5 * left
unfolding observations_from observation_at
observations_from_lem zero input i = refl
observations_from_lem (suc left) input i = let rest = observations_from_lem left input (i + 1) in omega arith

pub observations_length : (input : List ℕ) → length (observations input) ≡ 5 * records input
unfolding observations
observations_length input = observations_from_lem (records input) input 0

-- ---- a reply: four words for each record at most
reply_from : (left : ℕ) (input : List ℕ) (individual : Float) (i : ℕ) → length (replied_from left input individual i) ≤ 4 * (records input - i)
unfolding replied_from row_at
reply_from zero input individual i = omega arith
reply_from (suc left) input individual i =
    cases (λ (l : List ℕ). length l ≤ 4 * (records input - i)) (ltb i (records input))
    (λ q. let inside : i < records input = ltb-true _ _ q in let rest = reply_from left input individual (i + 1) in omega arith)
    (λ q. omega arith)

pub reply_length : (input : List ℕ) (first rows : ℕ) (individual : Float) → length (reply input first rows individual) ≤ 4 * records input
unfolding reply
reply_length input first rows individual = let most = reply_from rows input individual first in omega arith

-- ---- the subjects: at most one for each record, and at most 256 of these
subjects_from : (left : ℕ) (input : List ℕ) (i s : ℕ) {n : ℕ} → cohort_from left input i s ≡ given n → n ≤ s + left
unfolding cohort_from
subjects_from zero input i s e = let same = subjects_same e in omega arith where
  subjects_same : {a b : ℕ} → given a ≡ given b → a ≡ b
  subjects_same e = cc
subjects_from (suc left) input i s {n} e =
    cases (λ (r : Answer ℕ). r ≡ given n → n ≤ s + suc left) (eqb (reserved_at input i) 0)
    (λ _.
    cases (λ (r : Answer ℕ). r ≡ given n → n ≤ s + suc left) (eqb (subject_at input i) s)
    (λ _ q. let most = subjects_from left input (i + 1) (s + 1) q in omega arith)
    (λ _.
    cases (λ (r : Answer ℕ). r ≡ given n → n ≤ s + suc left) (eqb (subject_at input i + 1) s)
    (λ _ q. let most = subjects_from left input (i + 1) s q in omega arith)
    (λ _ q. refuses q)))
    (λ _ q. refuses q)
    e
  where
    refuses : no_cohort ≡ given n → n ≤ s + suc left
    refuses q = let z : ◌≡◌ {A = ℕ} 0 1 = cc in absurd (omega arith)

pub few_records : (input : List ℕ) {n : ℕ} → cohort input ≡ given n → (length input ≤ 12288) × (n ≤ 256)
unfolding cohort
few_records input {n} e =
    cases (λ (r : Answer ℕ). r ≡ given n → (length input ≤ 12288) × (n ≤ 256)) (eqb (length input % 48) 0)
    (λ w.
    cases (λ (r : Answer ℕ). r ≡ given n → (length input ≤ 12288) × (n ≤ 256)) (ltb 256 (records input))
    (λ _ q. refuses q)
    (λ f q. let few : records input ≤ 256 = ltb-false _ _ f in let most = subjects_from (records input) input 0 0 q in let whole : length input % 48 ≡ 0 = eqb-true _ _ w in
    (omega arith, omega arith)))
    (λ _ q. refuses q)
    e
  where
    refuses : no_cohort ≡ given n → (length input ≤ 12288) × (n ≤ 256)
    refuses q = let z : ◌≡◌ {A = ℕ} 0 1 = cc in absurd (omega arith)

-- ---- the counts add up to no more than the records: each record is of one subject
unfoldable pub sum : List ℕ → ℕ
sum [] = 0
sum (x ∷ l) = x + sum l

-- how many of m subjects from a on are the subject x
hits : ℕ → ℕ → ℕ → ℕ
hits zero a x = 0
hits (suc m) a x = pick (eqb x a) 1 0 + hits m (a + 1) x

no_hits : (m a x : ℕ) → x < a → hits m a x ≡ 0
unfolding hits
no_hits zero a x h = refl
no_hits (suc m) a x h =
    let other : x ≡ a → ⊥ = λ e. omega arith in
    let here : ◌≡◌ {A = ℕ} (pick (eqb x a) 1 0) 0 = pick_no (eqb x a) 1 0 (ne_eqb x a other) in
    let later = no_hits m (a + 1) x (omega arith) in
    omega arith

one_hit : (m a x : ℕ) → hits m a x ≤ 1
unfolding hits
one_hit zero a x = omega arith
one_hit (suc m) a x =
    cases (λ (k : ℕ). k + hits m (a + 1) x ≤ 1) (eqb x a)
    (λ q. let same : x ≡ a = eqb-true _ _ q in let none = no_hits m (a + 1) x (omega arith) in omega arith)
    (λ q. let later = one_hit m (a + 1) x in omega arith)

-- the records of m subjects from a on, among so many records from i on
of_subjects : ℕ → ℕ → ℕ → List ℕ → ℕ → ℕ
of_subjects zero a left input i = 0
of_subjects (suc m) a left input i = count_from left input i a + of_subjects m (a + 1) left input i

none_of : (m a : ℕ) (input : List ℕ) (i : ℕ) → of_subjects m a 0 input i ≡ 0
unfolding count_from of_subjects
none_of zero a input i = refl
none_of (suc m) a input i = let later = none_of m (a + 1) input i in omega arith

one_more_of : (m a left : ℕ) (input : List ℕ) (i : ℕ) → of_subjects m a (suc left) input i ≡ hits m a (subject_at input i) + of_subjects m a left input (i + 1)
unfolding count_from of_subjects hits
one_more_of zero a left input i = refl
one_more_of (suc m) a left input i = let later = one_more_of m (a + 1) left input i in omega arith

few_of : (m a left : ℕ) (input : List ℕ) (i : ℕ) → of_subjects m a left input i ≤ left
few_of m a zero input i = let none = none_of m a input i in omega arith
few_of m a (suc left) input i =
    let step = one_more_of m a left input i in
    let here = one_hit m a (subject_at input i) in
    let later = few_of m a left input (i + 1) in
    omega arith

counts_sum : (m a : ℕ) (input : List ℕ) → sum (counts_from m input a) ≡ of_subjects m a (records input) input 0
unfolding counts_from sum of_subjects
counts_sum zero a input = refl
counts_sum (suc m) a input = ap (λ (k : ℕ). count_from (records input) input 0 a + k) (counts_sum m (a + 1) input)

pub few_counted : (input : List ℕ) (n : ℕ) → sum (counts input n) ≤ records input
unfolding counts
few_counted input n = let same = counts_sum n 0 input in let few = few_of n 0 (records input) input 0 in omega arith
