-- The words stand for a list, as long as only `insert` writes. Assumes nothing.
--     empty_stands      words whose heads are zero, with the positions 1 1 0 0, stand for the empty list
--     insert_stands     insert drops the oldest until the new rows fit, and appends
--     insert_none       an evaluation of more rows than the room changes nothing
--     insert_bounded    the positions say at most k rows afterwards, whatever the words
--     keys_once, rows_kept, rows_most    no key twice; next_row - first_row is the number of rows in the list, at most k
use Rattle.std.specs.Prelude.{None, Some}
use Rattle.std.proofs.Common.{◌≡◌, ℕ, zero, suc, ◌+◌, ◌-◌, ◌*◌, ◌<◌, ◌≤◌, Bool, true, false, T, eqb, ltb, List, [], ◌∷◌, ◌++◌, length, get_or, sym, refl, ap, ◌∙◌, subst, ⊎_elim, arith, le-ltb, lt-ltb, ne_eqb}
use Rattle.float64.specs.Pick.{yes, no, cases, pick_yes, pick_no}
use Rattle.cache.specs.declared.CacheKey.{CacheKey}
use Rattle.cache.specs.declared.CachedTerms.{CachedTerms}
use Rattle.cache.specs.declared.CacheOrder.{CacheOrder}
use Rattle.cache.specs.Cache.{half, row_words, latest_of, order, evict, written, placed, is_kept, insert, Cache, after, is_room, same_key}
use Rattle.cache.specs.Kept.{Entry, words_from, key_of, entry_of, kept_from, Laid, Good, Stands, lookup, drop_to, cached_rows, Once}
use Rattle.cache.proofs.Walked.{which, split, room_is, few_entries, lookup_none, agrees}
use Rattle.cache.proofs.Dropped.{Left, evict_ok, evict_few, dropped_good, laid_rows}
use Rattle.cache.proofs.KeepingPaths.{kept_says}
use Rattle.cache.proofs.Placed.{Wrote, wrote, placed_good, placed_list}

pub empty_stands : (w : List ℕ) (k : ℕ) → 1 ≤ k → k ≤ 100000 → 24 * k ≤ length w → ((h : ℕ) → h < k → get_or w h 0 ≡ 0) → Stands w k (order 1 1 0 0) []
unfolding kept_from Laid latest_of
empty_stands w k a b l z =
    record {
      count = 0;
      ends = refl;
      good =
          record {
            some_room = a;
            most = b;
            long = l;
            from_one = omega arith;
            few = omega arith;
            room = omega arith;
            laid = refl;
            heads = λ h j. rw (z h j) (record { below = omega arith; all = λ s x y t. omega arith; own = λ x. absurd (let q : ⊥ = omega arith in q) });
            links = λ s x y. absurd (let q : ⊥ = omega arith in q);
            marks = λ s x y. absurd (let q : ⊥ = omega arith in q);
            filters = λ s x y. absurd (let q : ⊥ = omega arith in q);
            apart = λ s t x y j q. omega arith;
          };
      list = refl;
    }

never : (x : Entry) → Some x ≡ None → ⊥
never x e = let z : ◌≡◌ {A = ℕ} 0 1 = cc in omega arith

-- a key that the list lacks is no live entry's
absent : (w : List ℕ) (k : ℕ) (key : CacheKey) (c o : ℕ) → lookup key (kept_from c w k o) ≡ None → (s : ℕ) → o ≤ s → s < o + c → key_of w k s ≡ key → ⊥
unfolding lookup kept_from
absent w k key zero o e s a b q = omega arith
absent w k key (suc c) o e s a b q =
    ⊎_elim (λ (t : same_key (entry_of w k o).key key ≡ true). never (entry_of w k o) (yes _ t refl ∙ e))
    (λ (t : same_key (entry_of w k o).key key ≡ false).
    ⊎_elim (λ (h : o < s). absent w k key c (o + 1) (no _ t refl ∙ e) s (omega arith) (omega arith) q)
    (λ (h : s ≤ o). let z : o ≡ s = omega arith in subst T (sym (agrees w k key o (ap (key_of w k) z ∙ q)) ∙ t) tt)
    (split o s))
    (which _)

-- ---- insert. Its bound on next: it rises by one for each insertion, and a session makes fewer than 2^32.
module _ (w : List ℕ) (k : ℕ) (r : CacheOrder) (l : List Entry) (S : Stands w k r l) (key : CacheKey) (v : CachedTerms) (n : ℕ) (rows : List ℕ) (from : ℕ) (n-one : 1 ≤ n) (n-most : n ≤ k)
    (lent : from + row_words * n ≤ length rows) (soon : r.next < half) (new : lookup key l ≡ None) where
  left : Left w k r.next_row (k - n) r.next S.count r.oldest r.first_row
  left = evict_ok w k r.next_row (k - n) r.next S.count r.oldest r.first_row S.good.laid

  counted : r.next - r.oldest ≡ S.count
  counted = let z : r.oldest + S.count ≡ r.next = S.ends in omega arith

  kept_is : is_kept k r n (length rows) from ≡ true
  unfolding is_kept
  kept_is =
      let f : S.count ≤ k = few_entries w k S.count r.oldest r.first_row r.next_row S.good in
      let c : r.next - r.oldest ≡ S.count = counted in
      let x : r.next_row ≤ 100000 * (r.oldest + S.count) = S.good.few in
      let z : r.oldest + S.count ≡ r.next = S.ends in
      sym (yes _ (room_is k S.good.some_room S.good.most)
      (no _ (ne_eqb n 0 (λ q. omega arith))
      (no _ (le-ltb k n n-most)
      (no _ (le-ltb (length rows) (from + row_words * n) lent)
      (no _ (le-ltb k (r.next - r.oldest) (omega arith))
      (yes _ (lt-ltb r.next half soon) (sym (lt-ltb r.next_row 1152921504606846976 (omega arith)))))))))

  then : Cache
  then = placed w k (order left.oldest r.next left.bottom r.next_row) r.next r.next_row key v n rows from

  is_then : insert w k r key v n rows from ≡ then
  unfolding insert then
  is_then =
      sym (yes _ kept_is
      (ap (λ (x : CacheOrder). placed w k x r.next r.next_row key v n rows from) (sym (ap (λ (m : ℕ). evict m w k (k - n) r.next r.next_row r.oldest r.first_row) counted ∙ left.is))))

  -- over the number of the new entry
  stands_at : (e : ℕ) → left.oldest + left.count ≡ e → Stands (written w k left.oldest e r.next_row key v n rows from) k (order left.oldest (e + 1) left.bottom (r.next_row + n))
      (drop_to (k - n) l ++ (record { key = key; terms = v; n = n; rows = words_from (row_words * n) rows from } ∷ []))
  stands_at e q = subst (λ (e : ℕ). Stands (written w k left.oldest e r.next_row key v n rows from) k (order left.oldest (e + 1) left.bottom (r.next_row + n))
      (drop_to (k - n) l ++ (record { key = key; terms = v; n = n; rows = words_from (row_words * n) rows from } ∷ []))) q here
    where
      G : Good w k left.count left.oldest left.bottom r.next_row
      G = dropped_good w k S.count r.oldest r.first_row r.next_row (k - n) r.next (omega arith) S.good left

      W : Wrote w (written w k left.oldest (left.oldest + left.count) r.next_row key v n rows from) k left.oldest (left.oldest + left.count) r.next_row n key v rows from
      W = wrote w k left.oldest (left.oldest + left.count) r.next_row n key v rows from S.good.some_room n-most S.good.long (rw (left.ends ∙ S.ends) soon)

      fits : r.next_row + n ≤ left.bottom + k
      fits = let x : r.next_row ≤ left.bottom + (k - n) = left.fits in omega arith

      fresh : (s : ℕ) → left.oldest ≤ s → s < left.oldest + left.count → key_of w k s ≡ key → ⊥
      fresh s a b t =
          let x : r.oldest ≤ left.oldest = left.later in
          let y : left.oldest + left.count ≡ r.oldest + S.count = left.ends in
          absent w k key S.count r.oldest (ap (lookup key) S.list ∙ new) s (omega arith) (omega arith) t

      here : Stands (written w k left.oldest (left.oldest + left.count) r.next_row key v n rows from) k
          (order left.oldest (left.oldest + left.count + 1) left.bottom (r.next_row + n)) (drop_to (k - n) l ++
          (record { key = key; terms = v; n = n; rows = words_from (row_words * n) rows from } ∷ []))
      here =
          record {
            count = suc left.count;
            ends = omega arith;
            good = placed_good w _ k left.count left.oldest left.bottom r.next_row n key v rows from G W n-one n-most fits fresh;
            list = placed_list w _ k left.count left.oldest left.bottom r.next_row n key v rows from G W n-one n-most fits fresh ∙ ap {B = List Entry}
                (λ t. t ++ (record { key = key; terms = v; n = n; rows = words_from (row_words * n) rows from } ∷ [])) (left.list ∙ ap (drop_to (k - n)) S.list);
          }

  pub insert_stands : Stands (insert w k r key v n rows from).words k (insert w k r key v n rows from).order (drop_to (k - n) l ++
      (record { key = key; terms = v; n = n; rows = words_from (row_words * n) rows from } ∷ []))
  unfolding then placed
  insert_stands = rw is_then (stands_at r.next (left.ends ∙ S.ends))

  pub insert_counts : (insert w k r key v n rows from).order.next ≡ r.next + 1
  unfolding then placed
  insert_counts = ap (λ (x : Cache). x.order.next) is_then

pub insert_none : (w : List ℕ) (k : ℕ) (r : CacheOrder) (key : CacheKey) (v : CachedTerms) (n : ℕ) (rows : List ℕ) (from : ℕ) → k < n → insert w k r key v n rows from ≡ after r w
unfolding insert is_kept
insert_none w k r key v n rows from h =
    let never : (b : Bool) → Type 0 = λ b. b ≡ false in
    pick_no (is_kept k r n (length rows) from) _ _
    (cases never (is_room k) {y = false} (λ _. cases never (eqb n 0) {x = false} (λ _. refl) (λ _. pick_yes (ltb k n) _ _ (lt-ltb k n h))) (λ _. refl))

-- whatever the words and the positions
pub insert_bounded : (w : List ℕ) (k : ℕ) (r : CacheOrder) (key : CacheKey) (v : CachedTerms) (n : ℕ) (rows : List ℕ) (from : ℕ) → r.next_row - r.first_row ≤ k
    → (insert w k r key v n rows from).order.next_row - (insert w k r key v n rows from).order.first_row ≤ k
unfolding insert placed
insert_bounded w k r key v n rows from h =
    cases (λ (c : Cache). c.order.next_row - c.order.first_row ≤ k) (is_kept k r n (length rows) from)
    (λ t.
    let s : n ≤ k = (kept_says k r n (length rows) from refl t).fits in
    let f = evict_few w k (k - n) r.next r.next_row (r.next - r.oldest) r.oldest r.first_row in
    omega (arith, s, f))
    (λ t. h)

-- ---- the list's own laws
module _ (w : List ℕ) (k : ℕ) (r : CacheOrder) (l : List Entry) (S : Stands w k r l) where
  once : (c o : ℕ) → ((s t : ℕ) → o ≤ s → s < t → t < o + c → key_of w k s ≡ key_of w k t → ⊥) → Once (kept_from c w k o)
  unfolding Once kept_from entry_of
  once zero o f = tt
  once (suc c) o f = (lookup_none w k _ c (o + 1) (λ s a b q. f o s (omega arith) (omega arith) (omega arith) (sym q)), once c (o + 1) (λ s t a b d q. f s t (omega arith) b (omega arith) q))

  pub keys_once : Once l
  keys_once = subst Once S.list (once S.count r.oldest S.good.apart)

  pub rows_kept : r.first_row + cached_rows l ≡ r.next_row
  rows_kept = ap (λ (x : List Entry). r.first_row + cached_rows x) (sym S.list) ∙ laid_rows w k r.next_row S.count r.oldest r.first_row S.good.laid

  pub rows_most : cached_rows l ≤ k
  rows_most = let a : r.first_row + cached_rows l ≡ r.next_row = rows_kept in let b : r.next_row ≤ r.first_row + k = S.good.room in omega arith
