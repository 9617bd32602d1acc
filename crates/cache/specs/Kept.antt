-- Document 01's kept evaluations: the list of entries that the words stand for, the oldest first; and what the source's HashMap and
-- VecDeque do with such a list.
use Rattle.std.specs.Prelude.{◌≡◌, ℕ, zero, suc, ◌+◌, ◌-◌, ◌*◌, ◌<◌, ◌≤◌, true, List, [], ◌∷◌, ◌++◌, length, ◌≢◌, nat_lt, slice_index}
use Rattle.std.specs.Prelude.{None, Some, Option}
use Rattle.float64.specs.Pick.{pick}
use Rattle.cache.specs.declared.CacheKey.{CacheKey}
use Rattle.cache.specs.declared.CachedTerms.{CachedTerms}
use Rattle.cache.specs.declared.CacheOrder.{CacheOrder}
use Rattle.cache.specs.Cache.{row_words, kept_words, key_at, terms_at, entry_place, row_at, count_of, first_of, link_of, bits_of, latest_of}
use Rattle.cache.specs.Cache.{filter_of, has_bit, bits, bit_of, chain, same_key, Cache, find, insert}

-- a kept evaluation: n rows, and their words
pub record Entry : Type 0 where
  pub key : CacheKey
  pub terms : CachedTerms
  pub n : ℕ
  pub rows : List ℕ

-- ---- the list: what the source does
unfoldable pub lookup : CacheKey → List Entry → Option Entry
lookup key [] = None
lookup key (x ∷ l) = pick (same_key x.key key) (Some x) (lookup key l)

-- the source's cached_rows
unfoldable pub cached_rows : List Entry → ℕ
cached_rows [] = 0
cached_rows (x ∷ l) = x.n + cached_rows l

-- the oldest dropped until at most room rows are left
unfoldable pub drop_to : ℕ → List Entry → List Entry
drop_to room [] = []
drop_to room (x ∷ l) = pick (nat_lt room (cached_rows (x ∷ l))) (drop_to room l) (x ∷ l)

-- n words of v, from word i on
unfoldable pub words_from : ℕ → List ℕ → ℕ → List ℕ
words_from zero v i = []
words_from (suc n) v i = slice_index v i ∷ words_from n v (i + 1)

-- an evaluation with its n rows, which stand in rows from word `from` on
pub record Evaluated : Type 0 where
  pub key : CacheKey
  pub terms : CachedTerms
  pub n : ℕ
  pub rows : List ℕ
  pub from : ℕ

-- it has a row at least, and all its rows are lent
pub record Lent (x : Evaluated) : Type 0 where
  pub some_row : 1 ≤ x.n
  pub all_rows : x.from + row_words * x.n ≤ length x.rows

unfoldable pub AllLent : List Evaluated → Type 0
AllLent [] = Unit
AllLent (x ∷ xs) = Lent x × AllLent xs

abbrev pub entry_for : Evaluated → Entry
entry_for x = record { key = x.key; terms = x.terms; n = x.n; rows = words_from (row_words * x.n) x.rows x.from }

-- one of more than k rows is not kept
unfoldable pub appended : ℕ → List Entry → Evaluated → List Entry
appended k l x = pick (nat_lt k x.n) l (drop_to (k - x.n) l ++ (entry_for x ∷ []))

-- an evaluation is looked up, and kept where it is not found
unfoldable pub unless_found : Option Entry → List Entry → List Entry → List Entry
unless_found (Some x) there new = there
unless_found None there new = new

unfoldable pub kept_with : ℕ → List Entry → Evaluated → List Entry
kept_with k l x = unless_found (lookup x.key l) l (appended k l x)

unfoldable pub kept_after : ℕ → List Entry → List Evaluated → List Entry
kept_after k l [] = l
kept_after k l (x ∷ xs) = kept_after k (kept_with k l x) xs

-- ---- the same with the words, by `find` and `insert`
unfoldable pub unless_at : Option ℕ → Cache → Cache → Cache
unless_at (Some slot) there new = there
unless_at None there new = new

unfoldable pub cache_with : ℕ → Cache → Evaluated → Cache
cache_with k t x =
    unless_at (find t.words k t.order x.key) t (insert t.words k t.order x.key x.terms x.n x.rows x.from)

unfoldable pub cache_after : ℕ → Cache → List Evaluated → Cache
cache_after k t [] = t
cache_after k t (x ∷ xs) = cache_after k (cache_with k t x) xs

-- ---- what the words stand for
unfoldable pub key_of : List ℕ → ℕ → ℕ → CacheKey
key_of w k s = key_at w (entry_place k s)

unfoldable pub row_words_from : ℕ → List ℕ → ℕ → ℕ → List ℕ
row_words_from zero w k x = []
row_words_from (suc n) w k x = row_at w k x ∷ row_words_from n w k (x + 1)

unfoldable pub entry_of : List ℕ → ℕ → ℕ → Entry
entry_of w k s =
    record {
      key = key_of w k s;
      terms = terms_at w (entry_place k s);
      n = count_of w k s;
      rows = row_words_from (row_words * count_of w k s) w k (row_words * first_of w k s);
    }

-- c entries from the entry s on
unfoldable pub kept_from : ℕ → List ℕ → ℕ → ℕ → List Entry
kept_from zero w k s = []
kept_from (suc c) w k s = entry_of w k s ∷ kept_from c w k (s + 1)

-- what the slot that was found holds
unfoldable pub found_entry : List ℕ → ℕ → Option ℕ → Option Entry
found_entry w k (Some slot) = Some (entry_of w k slot)
found_entry w k None = None

-- q is the latest of the entries o up to e whose keys fall into the chain h; below o nothing is said of it
pub record Latest (w : List ℕ) (k o h q e : ℕ) : Type 0 where
  pub below : q < e
  pub all : (s : ℕ) → o ≤ s → s < e → chain k (key_of w k s) ≡ h → s ≤ q
  pub own : o ≤ q → chain k (key_of w k q) ≡ h

-- the rows of c entries from s on, one entry's after the other's, from row f up to row g
unfoldable pub Laid : ℕ → List ℕ → ℕ → ℕ → ℕ → ℕ → Type 0
Laid zero w k s f g = f ≡ g
Laid (suc c) w k s f g = (first_of w k s ≡ f) × (1 ≤ count_of w k s) × Laid c w k (s + 1) (f + count_of w k s) g

-- c entries, the oldest numbered o, with the rows b up to g
pub record Good (w : List ℕ) (k c o b g : ℕ) : Type 0 where
  pub some_room : 1 ≤ k
  pub most : k ≤ 100000
  pub long : kept_words * k ≤ length w
  pub from_one : 1 ≤ o
  pub few : g ≤ 100000 * (o + c)
  pub room : g ≤ b + k
  pub laid : Laid c w k o b g
  pub heads : (h : ℕ) → h < k → Latest w k o h (latest_of w h) (o + c)
  pub links : (s : ℕ) → o ≤ s → s < o + c → Latest w k o (chain k (key_of w k s)) (link_of w k s) s
  -- beside its link stand the bits of an entry's key, and its chain's filter has its bit
  pub marks : (s : ℕ) → o ≤ s → s < o + c → bits_of w k s ≡ bits (key_of w k s)
  pub filters : (s : ℕ) → o ≤ s → s < o + c → has_bit (filter_of w (chain k (key_of w k s))) (bit_of (key_of w k s)) ≡ true
  pub apart : (s t : ℕ) → o ≤ s → s < t → t < o + c → key_of w k s ≢ key_of w k t

-- the words w with the positions r stand for the list l in a room of k rows
pub record Stands (w : List ℕ) (k : ℕ) (r : CacheOrder) (l : List Entry) : Type 0 where
  pub count : ℕ
  pub ends : r.oldest + count ≡ r.next
  pub good : Good w k count r.oldest r.first_row r.next_row
  pub list : kept_from count w k r.oldest ≡ l

-- no key twice
unfoldable pub Once : List Entry → Type 0
Once [] = Unit
Once (x ∷ l) = (lookup x.key l ≡ None) × Once l
