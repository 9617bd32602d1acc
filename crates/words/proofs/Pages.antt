-- One text after another on a page. Assumes nothing.
use mathlib.Core.Path.{◌≡◌, refl, ap}
use mathlib.Core.List.{List, [], ◌∷◌, ◌++◌}
use Rattle.words.specs.Written.{Written, written, write}
use Rattle.words.specs.Page.{with_items}
use Rattle.words.specs.declared.Page.{Page}
use Rattle.words.proofs.Front.{write_append}

module _ {A : Type 0} where
  pub with_first : (x : A) (xs : List A) (p : Page A) → with_items (x ∷ xs) p ≡ with_items xs (with_items (x ∷ []) p)
  unfolding with_items write
  with_first x xs p = refl

  pub with_append : (a b : List A) (p : Page A) → with_items (a ++ b) p ≡ with_items b (with_items a p)
  unfolding with_items
  with_append a b p = ap (λ (t : Written A). record { out = record p.out { now = t.lent }; at = t.end }) (write_append a b (written p.at p.out.now))
