-- A definition by cases, in the order of the code's own tests: `pick b x y` is x where the test b holds, and y elsewhere.
-- It stays shut outside this file, so that a proof goes through nested ones by the laws below, a test at a time. Assumes nothing.
use Rattle.std.specs.Prelude.{◌≡◌, refl, Bool, true, false, T}
use Rattle.std.proofs.Common.{sym, subst, ◌∙◌}

unfoldable pub pick : {X : Type 0} → Bool → X → X → X
pick true x y = x
pick false x y = y

-- by the test itself
pub yes : {X : Type 0} {b : Bool} {x z : X} (y : X) → b ≡ true → z ≡ x → z ≡ pick b x y
unfolding pick
yes {b = true} y p q = q
yes {b = false} y p q = absurd (subst T (sym p) tt)

pub no : {X : Type 0} {b : Bool} {y z : X} (x : X) → b ≡ false → z ≡ y → z ≡ pick b x y
unfolding pick
no {b = true} x p q = absurd (subst T p tt)
no {b = false} x p q = q

-- by a call whose result r equals the test
pub yes_of : {X : Type 0} {r b : Bool} {x z : X} (y : X) → r ≡ b → r ≡ true → z ≡ x → z ≡ pick b x y
yes_of y e p q = yes y (sym e ∙ p) q

pub no_of : {X : Type 0} {r b : Bool} {y z : X} (x : X) → r ≡ b → r ≡ false → z ≡ y → z ≡ pick b x y
no_of x e p q = no x (sym e ∙ p) q

-- a test that does not matter, since the answer is the same further on
pub pass : {X : Type 0} {y z : X} (b : Bool) → z ≡ y → z ≡ pick b z y
unfolding pick
pass true p = refl
pass false p = p

-- what holds of both cases holds of the one picked
pub both : {X : Type 0} (P : X → Type 0) (b : Bool) {x y : X} → P x → P y → P (pick b x y)
unfolding pick
both P true p q = p
both P false p q = q

-- and so where each case may use its own test
pub cases : {X : Type 0} (P : X → Type 0) (b : Bool) {x y : X} → (b ≡ true → P x) → (b ≡ false → P y) → P (pick b x y)
unfolding pick
cases P true p q = p refl
cases P false p q = q refl

-- a function of what is picked, where the first case may use its test
pub pick_through : {X Y : Type 0} (f : X → Y) (b : Bool) {x y : X} {p q : Y} → (b ≡ true → f x ≡ p) → f y ≡ q → f (pick b x y) ≡ pick b p q
unfolding pick
pick_through f true p q = p refl
pick_through f false p q = q

-- ---- the laws as equations of the pick itself
pub pick_yes : {X : Type 0} (b : Bool) (x y : X) → b ≡ true → pick b x y ≡ x
pick_yes b x y e = sym (yes y e refl)

pub pick_no : {X : Type 0} (b : Bool) (x y : X) → b ≡ false → pick b x y ≡ y
pick_no b x y e = sym (no x e refl)

pub pick_same : {X : Type 0} (b : Bool) (x y : X) → y ≡ x → pick b x y ≡ x
pick_same b x y e = sym (pass b (sym e))

-- a proof by the tests that the code has passed, in a `using(..)`
pub ruleset picks = (pick_yes, pick_no)
