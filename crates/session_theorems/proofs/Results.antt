-- A subject's results: three words of its own, then two for each of its observations, out of the rows at eta zero and at the mode; and what is compared of these rows. Assumes nothing.
use mathlib.Core.Path.{◌≡◌, refl, sym, subst, ◌∙◌}
use mathlib.Core.Bool.{Bool, true, false}
use mathlib.Core.List.{List}
use mathlib.Core.Logic.{◌⊎◌, ⊎_elim}
use Prim.Native.Nat.{ℕ, zero, suc, ◌+◌, ◌-◌, ◌*◌, ◌≤◌, ◌<◌}
use native.Mathlib.Omega.{arith}
use borrow.Author.Tests.{eqb-true, eq-eqb}
use lib.Dec.{T, eqb}
use lib.ListN.{get_or, set, length, length-set}
use lib.Seq.{get_or-set_same, get_or-set_other}
use lib.Ieee.{Float, binary64, to_bits, eq}
use Rattle.float64.specs.Arithmetic.{word}
use Rattle.float64.specs.Pick.{pick, pick_yes}
use Rattle.matrix.specs.declared.Pair.{Pair}
use Rattle.cache.specs.Cache.{row_words}
use Rattle.work.specs.Work.{most_rows, block, is_same_row, same_from, is_same_grid, result_written, fitted_at, fitted_row, fitted_from, fitted_written}
use Rattle.session_theorems.proofs.Plain.{true_not_false, false_not_true}

pub past_two : (l : List ℕ) (i k a b x : ℕ) → (x ≡ i → ⊥) → (x ≡ k → ⊥) → get_or (set (set l i a) k b) x 0 ≡ get_or l x 0
past_two l i k a b x p q = get_or-set_other (set l i a) k x b 0 q ∙ get_or-set_other l i x a 0 p

-- ---- the predictions: n rows from the i-th on, written from word `at` on
fitted_length : (at : ℕ) (work : List ℕ) (rows i : ℕ) (results : List ℕ) → length (fitted_row at work rows i results) ≡ length results
unfolding fitted_row
fitted_length at work rows i results = simp length-set

fitted_behind : (n at : ℕ) (work : List ℕ) (rows i : ℕ) (results : List ℕ) (x : ℕ) → x < at + 2 * i → get_or (fitted_from n at work rows i results) x 0 ≡ get_or results x 0
unfolding fitted_from fitted_row
fitted_behind zero at work rows i results x l = refl
fitted_behind (suc n) at work rows i results x l =
    fitted_behind n at work rows (i + 1) _ x (omega (arith, l))
    ∙ past_two results (at + 2 * i) (at + 2 * i + 1) _ _ x (λ e. omega (arith, e, l)) (λ e. omega (arith, e, l))

fitted_past : (n at : ℕ) (work : List ℕ) (rows i : ℕ) (results : List ℕ) (x : ℕ) → at + 2 * (i + n) ≤ x → get_or (fitted_from n at work rows i results) x 0 ≡ get_or results x 0
unfolding fitted_from fitted_row
fitted_past zero at work rows i results x l = refl
fitted_past (suc n) at work rows i results x l =
    fitted_past n at work rows (i + 1) _ x (omega (arith, l))
    ∙ past_two results (at + 2 * i) (at + 2 * i + 1) _ _ x (λ e. omega (arith, e, l)) (λ e. omega (arith, e, l))

module _ (at : ℕ) (work : List ℕ) (rows : ℕ) where
  -- the two words of an observation: its predictions at eta zero and at the mode
  pub record Predicted (k : ℕ) (results : List ℕ) : Type 0 where
    pub population : get_or results (at + 2 * k) 0 ≡ get_or work (block rows 0 + row_words * k) 0
    pub individual : get_or results (at + 2 * k + 1) 0 ≡ get_or work (block rows 1 + row_words * k) 0

  here : (n i : ℕ) (results : List ℕ) → at + 2 * (i + suc n) ≤ length results → Predicted i (fitted_from (suc n) at work rows i results)
  unfolding fitted_from fitted_row
  here n i results l =
      let a = get_or work (block rows 0 + row_words * i) 0 in
      let b = get_or work (block rows 1 + row_words * i) 0 in
      let one = set results (at + 2 * i) a in
      let m = length-set results (at + 2 * i) a in
      record {
        population = fitted_behind n at work rows (i + 1) _ (at + 2 * i) (omega arith) ∙ get_or-set_other one (at + 2 * i + 1) (at + 2 * i) b 0 (λ e. omega (arith, e)) ∙ get_or-set_same results
            (at + 2 * i) a 0 (omega (arith, l));
        individual = fitted_behind n at work rows (i + 1) _ (at + 2 * i + 1) (omega arith) ∙ get_or-set_same one (at + 2 * i + 1) b 0 (omega (arith, l, m));
      }

  fitted_in : (n i : ℕ) (results : List ℕ) → at + 2 * (i + n) ≤ length results → (d : ℕ) → d < n → Predicted (i + d) (fitted_from n at work rows i results)
  unfolding fitted_from
  fitted_in zero i results l d h = absurd (omega (arith, h))
  fitted_in (suc n) i results l zero h = subst (λ (k : ℕ). Predicted k (fitted_from (suc n) at work rows i results)) (let e : i ≡ i + 0 = omega arith in e) (here n i results l)
  fitted_in (suc n) i results l (suc d) h =
      subst (λ (k : ℕ). Predicted k (fitted_from n at work rows (i + 1) (fitted_row at work rows i results))) (let e : i + 1 + d ≡ i + suc d = omega arith in e)
      (fitted_in n (i + 1) (fitted_row at work rows i results) (let m = fitted_length at work rows i results in omega (arith, l, m)) d (omega (arith, h)))

-- ---- a subject's words: its number is j, and `first` observations come before it
module _ (subjects first : ℕ) (work : List ℕ) (rows : ℕ) (m : subjects ≤ 4096) (few : first ≤ 100000) (small : rows ≤ 100000) (j : ℕ) (eta : Pair) (nll : Float) (results : List ℕ) where
  abbrev after : List ℕ
  after = fitted_written subjects first work rows (result_written j eta nll results)

  abbrev a : ℕ
  a = to_bits binary64 eta.first

  abbrev b : ℕ
  b = to_bits binary64 eta.second

  at_is : fitted_at subjects first ≡ 3 * subjects + 2 * first
  unfolding fitted_at
  at_is = let p : 4096 - (4096 - subjects) ≡ subjects = omega (arith, m) in let q : 100000 - (100000 - first) ≡ first = omega (arith, few) in omega (arith, p, q)

  result_behind : (x : ℕ) → x < 3 * subjects + 2 * first → get_or after x 0 ≡ get_or (result_written j eta nll results) x 0
  unfolding fitted_written
  result_behind x k = fitted_behind _ _ work rows 0 _ x (let e = at_is in omega (arith, e, k))

  -- what stands elsewhere before it stays
  pub result_kept : (x : ℕ) → x < 3 * subjects + 2 * first → (x < 3 * j) ⊎ (3 * j + 3 ≤ x) → get_or after x 0 ≡ get_or results x 0
  unfolding result_written
  result_kept x l o =
      result_behind x l
      ∙ get_or-set_other (set (set results (3 * j) a) (3 * j + 1) b) (3 * j + 2) x (to_bits binary64 nll) 0
      (λ e. ⊎_elim (λ (c : x < 3 * j). omega (arith, c, e)) (λ (c : 3 * j + 3 ≤ x). omega (arith, c, e)) o)
      ∙ past_two results (3 * j) (3 * j + 1) a b x (λ e. ⊎_elim (λ (c : x < 3 * j). omega (arith, c, e)) (λ (c : 3 * j + 3 ≤ x). omega (arith, c, e)) o)
      (λ e. ⊎_elim (λ (c : x < 3 * j). omega (arith, c, e)) (λ (c : 3 * j + 3 ≤ x). omega (arith, c, e)) o)

  -- and what stands behind it
  pub result_past : (x : ℕ) → j < subjects → 3 * subjects + 2 * (first + rows) ≤ x → get_or after x 0 ≡ get_or results x 0
  unfolding fitted_written result_written
  result_past x k l =
      fitted_past _ _ work rows 0 _ x (let e = at_is in let n : most_rows - (most_rows - rows) ≡ rows = omega (arith, small) in omega (arith, e, l, n))
      ∙ get_or-set_other (set (set results (3 * j) a) (3 * j + 1) b) (3 * j + 2) x (to_bits binary64 nll) 0 (λ e. omega (arith, e, k, l))
      ∙ past_two results (3 * j) (3 * j + 1) a b x (λ e. omega (arith, e, k, l)) (λ e. omega (arith, e, k, l))

  module _ (inside : j < subjects) (lent : 3 * subjects + 2 * (first + rows) ≤ length results) where
    pub first_written : get_or after (3 * j) 0 ≡ a
    unfolding result_written
    first_written = result_behind (3 * j) (omega (arith, inside)) ∙ past_two (set results (3 * j) a) (3 * j + 1) (3 * j + 2) b (to_bits binary64 nll) (3 * j) (λ e. omega (arith, e))
        (λ e. omega (arith, e))
        ∙ get_or-set_same results (3 * j) a 0 (omega (arith, inside, lent))

    pub second_written : get_or after (3 * j + 1) 0 ≡ b
    unfolding result_written
    second_written = result_behind (3 * j + 1) (omega (arith, inside)) ∙ get_or-set_other (set (set results (3 * j) a) (3 * j + 1) b) (3 * j + 2) (3 * j + 1) (to_bits binary64 nll) 0
        (λ e. omega (arith, e))
        ∙ get_or-set_same (set results (3 * j) a) (3 * j + 1) b 0 (let n = length-set results (3 * j) a in omega (arith, inside, lent, n))

    pub nll_written : get_or after (3 * j + 2) 0 ≡ to_bits binary64 nll
    unfolding result_written
    nll_written = result_behind (3 * j + 2) (omega (arith, inside))
        ∙ get_or-set_same (set (set results (3 * j) a) (3 * j + 1) b) (3 * j + 2) (to_bits binary64 nll) 0
        (let n = length-set results (3 * j) a in let k = length-set (set results (3 * j) a) (3 * j + 1) b in omega (arith, inside, lent, n, k))

    own_length : length (result_written j eta nll results) ≡ length results
    unfolding result_written
    own_length = simp length-set

    pub fitted_written_lem : (k : ℕ) → k < rows → Predicted (3 * subjects + 2 * first) work rows k after
    unfolding fitted_written
    fitted_written_lem k l =
        let all : 100000 - (100000 - rows) ≡ rows = omega (arith, small) in
        let n = own_length in
        subst (λ (p : ℕ). Predicted p work rows k (fitted_from (100000 - (100000 - rows)) (fitted_at subjects first) work rows 0 (result_written j eta nll results))) at_is
        (subst (λ (i : ℕ). Predicted (fitted_at subjects first) work rows i (fitted_from (100000 - (100000 - rows)) (fitted_at subjects first) work rows 0 (result_written j eta nll results)))
        (let e : 0 + k ≡ k = omega arith in e)
        (fitted_in (fitted_at subjects first) work rows (100000 - (100000 - rows)) 0 (result_written j eta nll results) (let p = at_is in omega (arith, p, all, lent, n)) k (omega (arith, l, all))))

-- ---- 17: of each row, the times as floats and the sides
module _ (work : List ℕ) (rows : ℕ) where
  abbrev pub SameAt : ℕ → Type 0
  SameAt k =
      T (eq (word (get_or work (block rows 0 + row_words * k + 1) 0)) (word (get_or work (block rows 1 + row_words * k + 1) 0)))
      × (get_or work (block rows 0 + row_words * k + 2) 0 ≡ get_or work (block rows 1 + row_words * k + 2) 0)

  row_same : (p q : ℕ) → is_same_row work p q ≡ true → T (eq (word (get_or work (p + 1) 0)) (word (get_or work (q + 1) 0))) × (get_or work (p + 2) 0 ≡ get_or work (q + 2) 0)
  unfolding is_same_row
  row_same p q e = by (eq (word (get_or work (p + 1) 0)) (word (get_or work (q + 1) 0))) e
    where
      by : (t : Bool) → pick t (eqb (get_or work (p + 2) 0) (get_or work (q + 2) 0)) false ≡ true → T t × (get_or work (p + 2) 0 ≡ get_or work (q + 2) 0)
      by true f = (tt, eqb-true _ _ (sym (pick_yes true _ false refl) ∙ f))
      by false f = absurd (false_not_true (unfold pick in f))

  row_so : (p q : ℕ) → T (eq (word (get_or work (p + 1) 0)) (word (get_or work (q + 1) 0))) × (get_or work (p + 2) 0 ≡ get_or work (q + 2) 0) → is_same_row work p q ≡ true
  unfolding is_same_row
  row_so p q h = by (eq (word (get_or work (p + 1) 0)) (word (get_or work (q + 1) 0))) h.0
    where
      by : (t : Bool) → T t → pick t (eqb (get_or work (p + 2) 0) (get_or work (q + 2) 0)) false ≡ true
      by true f = pick_yes true _ false refl ∙ eq-eqb _ _ h.1
      by false f = absurd f

  by_row : (n i : ℕ) → (same_from n work rows (i + 1) ≡ true → (d : ℕ) → d < n → SameAt (i + 1 + d))
      → (t : Bool) → is_same_row work (block rows 0 + row_words * i) (block rows 1 + row_words * i) ≡ t → pick t (same_from n work rows (i + 1)) false ≡ true → (d : ℕ) → d < suc n → SameAt (i + d)
  unfolding pick
  by_row n i rest false q f d l = absurd (false_not_true f)
  by_row n i rest true q f zero l = subst SameAt (let z : i ≡ i + 0 = omega arith in z) (row_same _ _ q)
  by_row n i rest true q f (suc d) l = subst SameAt (let z : i + 1 + d ≡ i + suc d = omega arith in z) (rest f d (omega (arith, l)))

  each_same : (n i : ℕ) → same_from n work rows i ≡ true → (d : ℕ) → d < n → SameAt (i + d)
  unfolding same_from
  each_same zero i e d l = absurd (omega (arith, l))
  each_same (suc n) i e d l = by_row n i (each_same n (i + 1)) (is_same_row work (block rows 0 + row_words * i) (block rows 1 + row_words * i)) refl e d l

  all_same : (n i : ℕ) → ((d : ℕ) → d < n → SameAt (i + d)) → same_from n work rows i ≡ true
  unfolding same_from
  all_same zero i f = refl
  all_same (suc n) i f =
      pick_yes _ _ false (row_so _ _ (subst SameAt (let z : i + 0 ≡ i = omega arith in z) (f 0 (omega arith))))
      ∙ all_same n (i + 1) (λ d l. subst SameAt (let z : i + suc d ≡ i + 1 + d = omega arith in z) (f (suc d) (omega (arith, l))))

  pub grid_same : rows ≤ 100000 → is_same_grid work rows ≡ true → (k : ℕ) → k < rows → SameAt k
  unfolding is_same_grid
  grid_same small e k l = subst SameAt (let z : 0 + k ≡ k = omega arith in z) (each_same _ 0 e k (let all : 100000 - (100000 - rows) ≡ rows = omega (arith, small) in omega (arith, l, all)))

  pub grid_other : rows ≤ 100000 → is_same_grid work rows ≡ false → ((k : ℕ) → k < rows → SameAt k) → ⊥
  unfolding is_same_grid
  grid_other small e f = true_not_false (sym
      (all_same _ 0 (λ d l. subst SameAt (let z : d ≡ 0 + d = omega arith in z) (f d (let all : 100000 - (100000 - rows) ≡ rows = omega (arith, small) in omega (arith, l, all))))) ∙ e)
