-- How many points a search of any rules asks for: `Room n x` says that at most n more are asked from the search x on. Assumes nothing.
use mathlib.Core.List.{List, [], ◌∷◌}
use Prim.Native.Nat.{ℕ, ◌+◌, ◌-◌, ◌≤◌}
use native.Mathlib.Omega.{arith}
use lib.ListN.{length}
use Rattle.mode_theorems.specs.Histories.{led_from, Answered}

-- one is left, and at most n - 1 more are asked from the search x on
abbrev pub Fewer : {X : Type 0} → (ℕ → X → Type 0) → ℕ → X → Type 0
Fewer Room n x = (1 ≤ n) × Room (n - 1) x

module _ {X C Q : Type 0} (Answers : Q → C → Type 0) (request : X → Q) (advance : X → C → X) (asks : Q → ℕ) (Room : ℕ → X → Type 0)
    (now : (n : ℕ) (x : X) → Room n x → asks (request x) ≤ n) (next : (n : ℕ) (x : X) (c : C) → Room n x → Answers (request x) c → Fewer Room n (advance x c)) where
  pub at_most : (h : List C) (x : X) (n : ℕ) → Room n x → Answered Answers request advance x h → length h + asks (request (led_from advance x h)) ≤ n
  unfolding Answered led_from
  at_most [] x n r f = let k = now n x r in omega (arith, k)
  at_most (c ∷ h) x n r f =
      let w = next n x c r f.0 in
      let k = at_most h (advance x c) (n - 1) w.1 f.1 in
      omega (arith, w.0, k)
