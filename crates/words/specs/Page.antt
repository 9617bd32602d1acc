-- A page: what is lent, and the place at which the next item is written.
use Rattle.std.specs.Prelude.{List, ℕ}
use Rattle.std.specs.Borrow.{MutBor}
use Rattle.words.specs.Written.{written, write}
use Rattle.words.specs.declared.Page.{Page}

module _ {A : Type 0} where
  -- of what is lent, from its front on
  abbrev pub blank : MutBor (List A) → Page A
  blank out = record { out = out; at = 0 }

  -- of what is lent, from a place on
  abbrev pub page_from : ℕ → MutBor (List A) → Page A
  page_from at out = record { out = out; at = at }

  -- the same page once these are written on it
  unfoldable pub with_items : List A → Page A → Page A
  with_items xs p = let t = write xs (written p.at p.out.now) in record { out = record p.out { now = t.lent }; at = t.end }
