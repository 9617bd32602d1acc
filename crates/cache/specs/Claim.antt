-- What is claimed of the kept evaluations: as long as only `insert` writes, the words are the source's map and queue. Callers use these
-- laws, and the definitions by name alone.
use Rattle.std.specs.Prelude.{◌≡◌, ℕ, ◌+◌, ◌-◌, ◌*◌, ◌<◌, ◌≤◌, ◌⊎◌, List, [], ◌∷◌, ◌++◌, length, slice_index, None}
use Rattle.cache.specs.declared.CacheKey.{CacheKey}
use Rattle.cache.specs.declared.CacheOrder.{CacheOrder}
use Rattle.cache.specs.Cache.{half, row_words, kept_words, order, Cache, find, terms_of, copied, insert, after}
use Rattle.cache.specs.Kept.{Entry, lookup, cached_rows, drop_to, Evaluated, Lent, AllLent, entry_for, kept_after, cache_after, found_entry}
use Rattle.cache.specs.Kept.{entry_of, Stands, Once}

-- x kept by insert
abbrev pub insert_of : List ℕ → ℕ → CacheOrder → Evaluated → Cache
insert_of w k r x = insert w k r x.key x.terms x.n x.rows x.from

-- k is document 01's K
pub record Room (k : ℕ) : Type 0 where
  pub some : 1 ≤ k
  pub most : k ≤ 100000

pub record Refinement : Type 0 where
  -- cleared words stand for the empty list
  pub cleared : (w : List ℕ) (k : ℕ) → Room k → kept_words * k ≤ length w → ((i : ℕ) → i < k → slice_index w i ≡ 0)
      → Stands w k (order 1 1 0 0) []
  -- find is the lookup in the list, with the entry's own terms and rows
  pub finds : (w : List ℕ) (k : ℕ) (r : CacheOrder) (l : List Entry) → Stands w k r l → (key : CacheKey)
      → found_entry w k (find w k r key) ≡ lookup key l
  -- insert of a key that is not in it drops the oldest until the rows fit, and appends
  pub keeps : (w : List ℕ) (k : ℕ) (r : CacheOrder) (l : List Entry) → Stands w k r l → (x : Evaluated) → Lent x → x.n ≤ k
      → r.next < half → lookup x.key l ≡ None
      → Stands (insert_of w k r x).words k (insert_of w k r x).order (drop_to (k - x.n) l ++ (entry_for x ∷ []))
  -- and takes one number
  pub counts : (w : List ℕ) (k : ℕ) (r : CacheOrder) (l : List Entry) → Stands w k r l → (x : Evaluated) → Lent x → x.n ≤ k
      → r.next < half → lookup x.key l ≡ None → (insert_of w k r x).order.next ≡ r.next + 1
  -- one of more than k rows is not kept
  pub passes : (w : List ℕ) (k : ℕ) (r : CacheOrder) (x : Evaluated) → k < x.n → insert_of w k r x ≡ after r w
  -- no key stands twice; cached_rows is next_row - first_row, and at most k
  pub once : (w : List ℕ) (k : ℕ) (r : CacheOrder) (l : List Entry) → Stands w k r l → Once l
  pub rows : (w : List ℕ) (k : ℕ) (r : CacheOrder) (l : List Entry) → Stands w k r l → r.first_row + cached_rows l ≡ r.next_row
  pub at_most : (w : List ℕ) (k : ℕ) (r : CacheOrder) (l : List Entry) → Stands w k r l → cached_rows l ≤ k
  -- whatever the words and the positions: where these say at most k rows, they say so afterwards
  pub bounded : (w : List ℕ) (k : ℕ) (r : CacheOrder) (x : Evaluated) → r.next_row - r.first_row ≤ k
      → (insert_of w k r x).order.next_row - (insert_of w k r x).order.first_row ≤ k
  -- so after any list of evaluations, each looked up and kept where it is not found
  pub run : (k : ℕ) (xs : List Evaluated) (t : Cache) (l : List Entry) → AllLent xs → Stands t.words k t.order l
      → t.order.next + length xs < half
      → Stands (cache_after k t xs).words k (cache_after k t xs).order (kept_after k l xs)
  -- the readers read what the slot's entry holds, and write nothing else
  pub reads_terms : (w : List ℕ) (k slot : ℕ) → Room k → terms_of w k slot ≡ (entry_of w k slot).terms
  pub reads_rows : (w : List ℕ) (k slot n : ℕ) (out : List ℕ) (to : ℕ) → Room k → kept_words * k ≤ length w → n ≤ k
      → to + row_words * n ≤ length out → n ≤ (entry_of w k slot).n
      → (j : ℕ) → j < row_words * n → slice_index (copied w k slot n out to) (to + j) ≡ slice_index (entry_of w k slot).rows j
  pub reads_no_more : (w : List ℕ) (k slot n : ℕ) (out : List ℕ) (to : ℕ) → Room k → kept_words * k ≤ length w → n ≤ k
      → to + row_words * n ≤ length out
      → (j : ℕ) → (j < to) ⊎ (to + row_words * n ≤ j) → slice_index (copied w k slot n out to) j ≡ slice_index out j
