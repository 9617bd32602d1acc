-- Any number of evaluations, each looked up and kept where it is not found: what the words do is what the list does. Assumes nothing.
--     kept_after_lem from words that stand for l, after any list of evaluations the words stand for the list after them
--     terms_at_lem, copied_at, copied_else    what is read of a slot is its entry's, and nothing else is touched
use Rattle.std.specs.Prelude.{None, Option, Some}
use Rattle.std.proofs.Common.{◌≡◌, ℕ, zero, suc, ◌+◌, ◌-◌, ◌*◌, ◌<◌, ◌≤◌, ltb, ◌⊎◌, List, [], ◌∷◌, ◌++◌, length, get_or, set, sym, refl, ap, ◌∙◌, subst, inl, inr, ⊎_elim, add-zero, arith, length-set, get_or-set_other, get_or-set_same, ltb-false, ltb-true, le-ltb}
use Rattle.float64.specs.Pick.{cases, pick_yes, pick_no}
use Rattle.cache.specs.Cache.{half, row_words, rows_from, row_at, first_of, insert, Cache, terms_of, copy_from, rows_to, copied}
use Rattle.cache.specs.Kept.{Entry, Stands, lookup, drop_to, found_entry, entry_of, row_words_from, Evaluated, Lent, AllLent, entry_for, unless_at, unless_found, cache_with, cache_after, appended}
use Rattle.cache.specs.Kept.{kept_with, kept_after}
use Rattle.cache.specs.Claim.{Refinement}
use Rattle.cache.proofs.Walked.{split, room_is, find_is_lookup}
use Rattle.cache.proofs.Refine.{empty_stands, insert_stands, insert_counts, insert_none, insert_bounded, keys_once, rows_kept, rows_most}

abbrev On : ℕ → ℕ → Cache → List Entry → Type 0
On k e t l = Stands t.words k t.order l × (t.order.next ≤ e)

module _ (k : ℕ) (t : Cache) (l : List Entry) (S : Stands t.words k t.order l) (x : Evaluated) (lent : Lent x) (e : ℕ) (at : t.order.next ≤ e) (soon : e < half) where
  new : Cache
  new = insert t.words k t.order x.key x.terms x.n x.rows x.from

  kept : lookup x.key l ≡ None → On k (e + 1) new (appended k l x)
  unfolding appended new
  kept z =
      cases (On k (e + 1) new) (ltb k x.n) {x = l} {y = drop_to (k - x.n) l ++ (entry_for x ∷ [])}
      (λ p. subst (λ (y : Cache). On k (e + 1) y l) (sym (insert_none t.words k t.order x.key x.terms x.n x.rows x.from (ltb-true _ _ p))) (S, omega arith))
      (λ p.
      let b : x.n ≤ k = ltb-false k x.n p in
      let c : t.order.next < half = omega arith in
      let i : new.order.next ≡ t.order.next + 1 = insert_counts t.words k t.order l S x.key x.terms x.n x.rows x.from lent.some_row b lent.all_rows c z in
      (insert_stands t.words k t.order l S x.key x.terms x.n x.rows x.from lent.some_row b lent.all_rows c z, omega (arith, i, at)))

  told : (f : Option ℕ) → found_entry t.words k f ≡ lookup x.key l → On k (e + 1) (unless_at f t new) (unless_found (lookup x.key l) l (appended k l x))
  unfolding found_entry unless_at unless_found
  told (Some slot) q = subst (λ (y : Option Entry). On k (e + 1) t (unless_found y l (appended k l x))) q (S, omega arith)
  told None q = subst (λ (y : Option Entry). On k (e + 1) new (unless_found y l (appended k l x))) q (kept (sym q))

  with_one : On k (e + 1) (cache_with k t x) (kept_with k l x)
  unfolding cache_with kept_with new
  with_one = told _ (find_is_lookup t.words k t.order l S x.key)

pub kept_after_lem : (k : ℕ) (xs : List Evaluated) (t : Cache) (l : List Entry) → AllLent xs → Stands t.words k t.order l → t.order.next + length xs < half → Stands (cache_after k t xs).words k
    (cache_after k t xs).order (kept_after k l xs)
unfolding cache_after kept_after AllLent
kept_after_lem k [] t l a S h = S
kept_after_lem k (x ∷ xs) t l a S h =
    let r = with_one k t l S x a.0 t.order.next (omega arith) (omega arith) in
    let b : (cache_with k t x).order.next ≤ t.order.next + 1 = r.1 in
    kept_after_lem k xs (cache_with k t x) (kept_with k l x) a.1 r.0 (omega arith)

-- ---- readers
rows_read : (m : ℕ) (w : List ℕ) (k x j : ℕ) → j < m → get_or (row_words_from m w k x) j 0 ≡ row_at w k (x + j)
unfolding row_words_from
rows_read zero w k x j h = absurd (let z : ⊥ = omega arith in z)
rows_read (suc m) w k x zero h = ap (row_at w k) (sym (add-zero x))
rows_read (suc m) w k x (suc j) h = rows_read m w k (x + 1) j (omega arith) ∙ ap (row_at w k) (let z : x + 1 + j ≡ x + suc j = omega arith in z)

rows_at : (w : List ℕ) (k slot j : ℕ) → j < row_words * (entry_of w k slot).n → row_at w k (row_words * first_of w k slot + j) ≡ get_or (entry_of w k slot).rows j 0
unfolding entry_of
rows_at w k slot j h = sym (rows_read _ w k _ j h)

-- the terms of a slot are its entry's
pub terms_at_lem : (w : List ℕ) (k slot : ℕ) → 1 ≤ k → k ≤ 100000 → terms_of w k slot ≡ (entry_of w k slot).terms
unfolding entry_of terms_of
terms_at_lem w k slot a b = pick_yes _ _ _ (room_is k a b)

-- rows copied out are the entry's, and nothing else is touched
copy_other : (m : ℕ) (w : List ℕ) (k x : ℕ) (out : List ℕ) (to i j : ℕ) → (j < to + i) ⊎ (to + (i + m) ≤ j) → get_or (copy_from m w k x out to i) j 0 ≡ get_or out j 0
unfolding copy_from
copy_other zero w k x out to i j h = refl
copy_other (suc m) w k x out to i j h =
    copy_other m w k x _ to (i + 1) j (⊎_elim (λ (a : j < to + i). inl (omega arith)) (λ (a : to + (i + suc m) ≤ j). inr (omega arith)) h)
    ∙ get_or-set_other out (to + i) j _ 0 (⊎_elim (λ (a : j < to + i) (q : j ≡ to + i). omega arith) (λ (a : to + (i + suc m) ≤ j) (q : j ≡ to + i). omega arith) h)

copy_same : (m : ℕ) (w : List ℕ) (k x : ℕ) (out : List ℕ) (to i t : ℕ) → i ≤ t → t < i + m → to + (i + m) ≤ length out → get_or (copy_from m w k x out to i) (to + t) 0 ≡ row_at w k (x + t)
unfolding copy_from
copy_same zero w k x out to i t a b l = absurd (let z : ⊥ = omega arith in z)
copy_same (suc m) w k x out to i t a b l =
    ⊎_elim (λ (h : i < t). copy_same m w k x _ to (i + 1) t (omega arith) (omega arith) (rw (length-set out (to + i) (row_at w k (x + i))) (omega arith)))
    (λ (h : t ≤ i). let e : i ≡ t = omega arith in copy_other m w k x _ to (i + 1) (to + t) (inl (omega arith)) ∙ ap (λ (u : ℕ). get_or (set out (to + u) (row_at w k (x + u))) (to + t) 0) e ∙
    get_or-set_same out (to + t) (row_at w k (x + t)) 0 (omega arith))
    (split i t)

module _ (w : List ℕ) (k slot n : ℕ) (out : List ℕ) (to : ℕ) (a : 1 ≤ k) (b : k ≤ 100000) (long : 24 * k ≤ length w) (most : n ≤ k) (fits : to + row_words * n ≤ length out) where
  copied_is : copied w k slot n out to ≡ rows_to w k slot (row_words * n) out to
  unfolding copied
  copied_is = pick_yes _ _ _ (room_is k a b) ∙ pick_no _ _ _ (le-ltb k n most) ∙ pick_no _ _ _ (le-ltb (length w) ((rows_from + row_words) * k) (omega (arith, long))) ∙ pick_no _ _ _
      (le-ltb (length out) (to + row_words * n) fits)

  -- the rows copied are the entry's
  pub copied_at : n ≤ (entry_of w k slot).n → (j : ℕ) → j < row_words * n → get_or (copied w k slot n out to) (to + j) 0 ≡ get_or (entry_of w k slot).rows j 0
  unfolding rows_to
  copied_at h j d = ap (λ (l : List ℕ). get_or l (to + j) 0) copied_is ∙ copy_same (row_words * n) w k _ out to 0 j (omega arith) (omega arith) (omega arith) ∙ rows_at w k slot j (omega arith)

  -- and nothing else is touched
  pub copied_else : (j : ℕ) → (j < to) ⊎ (to + row_words * n ≤ j) → get_or (copied w k slot n out to) j 0 ≡ get_or out j 0
  unfolding rows_to
  copied_else j h = ap (λ (l : List ℕ). get_or l j 0) copied_is ∙ copy_other (row_words * n) w k _ out to 0 j (⊎_elim (λ (a : j < to). inl (omega arith))
      (λ (a : to + row_words * n ≤ j). inr (omega arith)) h)

pub refinement : Refinement
refinement = record {
  cleared = λ w k m. empty_stands w k m.some m.most;
  finds = λ w k r l S key. find_is_lookup w k r l S key;
  keeps = λ w k r l S x a b c z. insert_stands w k r l S x.key x.terms x.n x.rows x.from a.some_row b a.all_rows c z;
  counts = λ w k r l S x a b c z. insert_counts w k r l S x.key x.terms x.n x.rows x.from a.some_row b a.all_rows c z;
  passes = λ w k r x h. insert_none w k r x.key x.terms x.n x.rows x.from h;
  bounded = λ w k r x h. insert_bounded w k r x.key x.terms x.n x.rows x.from h;
  once = keys_once;
  rows = rows_kept;
  at_most = rows_most;
  run = kept_after_lem;
  reads_terms = λ w k slot m. terms_at_lem w k slot m.some m.most;
  reads_rows = λ w k slot n out to m l h f e j d. copied_at w k slot n out to m.some m.most l h f e j d;
  reads_no_more = λ w k slot n out to m l h f j d. copied_else w k slot n out to m.some m.most l h f j d;
}
