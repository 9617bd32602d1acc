-- The ways through the code: one law for each, over plain variables. Assumes nothing.
use mathlib.Core.Path.{◌≡◌, refl, sym, ap}
use mathlib.Core.List.{List, [], ◌∷◌}
use Prim.Native.Nat.{ℕ, zero, suc, ◌+◌, ◌≤◌, ◌<◌}
use borrow.Author.Tests.{lt-ltb, le-ltb}
use lib.ListN.{set, length, replicate}
use Rattle.float64.specs.Pick.{pick_yes, pick_no}
use Rattle.words.specs.Words.{zeros}
use Rattle.words.specs.Written.{Written, put, write}
use Rattle.words.specs.Page.{with_items}
use Rattle.words.specs.declared.Page.{Page}

-- ---- clearing
pub all_cleared : (n : ℕ) → replicate n 0 ≡ zeros n
unfolding zeros
all_cleared zero = refl
all_cleared (suc n) = ap (λ (l : List ℕ). 0 ∷ l) (all_cleared n)

-- ---- one item on a page
module _ {A : Type 0} (x : A) (p : Page A) where
  pub puts : p.at < length p.out.now → record { out = record p.out { now = set p.out.now p.at x }; at = p.at + 1 } ≡ with_items (x ∷ []) p
  unfolding with_items write put
  puts h = sym (ap (λ (t : Written A). record { out = record p.out { now = t.lent }; at = t.end }) (pick_yes _ _ _ (lt-ltb _ _ h)))

  pub stays : length p.out.now ≤ p.at → p ≡ with_items (x ∷ []) p
  unfolding with_items write put
  stays h = sym (ap (λ (t : Written A). record { out = record p.out { now = t.lent }; at = t.end }) (pick_no _ _ _ (le-ltb _ _ h)))
