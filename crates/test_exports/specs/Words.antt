-- Positions, keys and terms of the kept evaluations as words, and what the answer of `find` is to the comparison.
use Rattle.std.specs.Prelude.{ℕ, Bool, true, false, List, [], ◌∷◌, slice_index, None, Option, Some}
use Rattle.cache.specs.declared.CacheKey.{CacheKey}
use Rattle.cache.specs.declared.CachedTerms.{CachedTerms}
use Rattle.cache.specs.declared.CacheOrder.{CacheOrder}

abbrev pub at : List ℕ → ℕ → ℕ
at words i = slice_index words i

unfoldable pub key_of : List ℕ → CacheKey
key_of words =
    record {
      subject = at words 0;
      theta0 = at words 1;
      theta1 = at words 2;
      eta0 = at words 3;
      eta1 = at words 4;
      has_additive = at words 5;
      additive = at words 6;
    }

unfoldable pub terms_from : List ℕ → CachedTerms
terms_from words =
    record {
      nll = at words 0;
      score0 = at words 1;
      score1 = at words 2;
      i00 = at words 3;
      i01 = at words 4;
      i10 = at words 5;
      i11 = at words 6;
    }

unfoldable pub term_words : CachedTerms → List ℕ
term_words t = t.nll ∷ t.score0 ∷ t.score1 ∷ t.i00 ∷ t.i01 ∷ t.i10 ∷ t.i11 ∷ []

unfoldable pub order_of : List ℕ → CacheOrder
order_of words = record { oldest = at words 0; next = at words 1; first_row = at words 2; next_row = at words 3 }

unfoldable pub order_words : CacheOrder → List ℕ
order_words o = o.oldest ∷ o.next ∷ o.first_row ∷ o.next_row ∷ []

unfoldable pub is_found : Option ℕ → Bool
is_found (Some slot) = true
is_found None = false

-- what was there stays where nothing is found
unfoldable pub slot_or : ℕ → Option ℕ → ℕ
slot_or old (Some slot) = slot
slot_or old None = old
