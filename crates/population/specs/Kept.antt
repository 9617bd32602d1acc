-- What an objective asks of the kept evaluations, and two ways to have it: in lent words, and as the list that they stand for.
use Rattle.std.specs.Prelude.{ℕ, zero, suc, ◌+◌, ◌-◌, ◌*◌, List, [], length, slice_index, slice_set, None, Some, Option}
use Rattle.cache.specs.Cache.{Cache, find, terms_of, copied, insert, order, row_words, kept_words}
use Rattle.cache.specs.Kept.{Entry, lookup, cached_rows, appended}
use Rattle.words.specs.Words.{zeros}
use Rattle.cache.specs.declared.CacheKey.{CacheKey}
use Rattle.cache.specs.declared.CacheOrder.{CacheOrder}
use Rattle.cache.specs.declared.CachedTerms.{CachedTerms}

-- the terms of a kept evaluation, and the work words with its rows
pub record Recalled : Type 0 where
  pub terms : CachedTerms
  pub work : List ℕ

pub record Store : Type 1 where
  pub Kept : Type 0
  -- what is kept under a key, in a room of k rows: its first n rows go to the work words, from word `to` on
  pub recall : Kept → ℕ → CacheKey → ℕ → List ℕ → ℕ → Option Recalled
  -- an evaluation with its n rows, which stand in the work words from word `from` on, is kept
  pub keep : Kept → ℕ → CacheKey → CachedTerms → ℕ → List ℕ → ℕ → Kept
  -- the source's cached_rows
  pub rows : Kept → ℕ
  -- how many words are lent for them, where K is k
  pub lent : Kept → ℕ → ℕ
  -- nothing is kept, in n words that are lent
  pub cleared : ℕ → Kept

-- ---- in lent words

abbrev pub cache_of : List ℕ → CacheOrder → Cache
cache_of words order = record { words = words; order = order }

unfoldable pub recall_at : List ℕ → ℕ → ℕ → List ℕ → ℕ → Option ℕ → Option Recalled
recall_at w k n work to (Some slot) = Some (record { terms = terms_of w k slot; work = copied w k slot n work to })
recall_at w k n work to None = None

unfoldable pub order_rows : CacheOrder → ℕ
order_rows order = order.next_row - order.first_row

abbrev pub words : Store
words = record {
  Kept = Cache;
  recall = λ c k key n work to. recall_at c.words k n work to (find c.words k c.order key);
  keep = λ c k key terms n work from. insert c.words k c.order key terms n work from;
  rows = λ c. order_rows c.order;
  lent = λ c k. length c.words;
  cleared = λ n. cache_of (zeros n) (order 1 1 0 0);
}

-- ---- as a list, the oldest first

-- n words of v written from word `to` on
unfoldable pub copy_to : ℕ → List ℕ → ℕ → List ℕ → ℕ → List ℕ
copy_to zero v i out to = out
copy_to (suc n) v i out to = copy_to n v (i + 1) (slice_set out (to + i) (slice_index v i)) to

unfoldable pub recall_entry : ℕ → List ℕ → ℕ → Option Entry → Option Recalled
recall_entry n work to (Some x) = Some (record { terms = x.terms; work = copy_to (row_words * n) x.rows 0 work to })
recall_entry n work to None = None

abbrev pub entries : Store
entries = record {
  Kept = List Entry;
  recall = λ l k key n work to. recall_entry n work to (lookup key l);
  keep = λ l k key terms n work from. appended k l (record { key = key; terms = terms; n = n; rows = work; from = from });
  rows = cached_rows;
  lent = λ l k. kept_words * k;
  cleared = λ n. [];
}
