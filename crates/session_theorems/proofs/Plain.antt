-- Small facts that the other files share: of tests, and of numbers. Assumes nothing.
use mathlib.Core.Path.{◌≡◌, refl, sym, subst, ◌∙◌}
use mathlib.Core.Bool.{Bool, true, false, not}
use mathlib.Core.Logic.{◌⊎◌, inl, inr}
use Prim.Native.Nat.{ℕ, zero, suc, ◌≤◌, ◌<◌}
use native.Mathlib.Omega.{arith}
use borrow.Author.Tests.{ltb-true, ltb-false}
use lib.Dec.{T, ltb, eqb}
use Rattle.float64.specs.Pick.{pick, cases}

pub true_not_false : true ≡ false → ⊥
true_not_false e = subst T e tt

pub false_not_true : false ≡ true → ⊥
false_not_true e = subst T (sym e) tt

-- both tests hold
pub only_first : (b y : Bool) → pick b y false ≡ true → (b ≡ true) × (y ≡ true)
only_first b y = cases (λ (v : Bool). v ≡ true → (b ≡ true) × (y ≡ true)) b (λ t e. (t, e)) (λ f e. absurd (false_not_true e))

pub not_not : (b : Bool) → not b ≡ false → T b
not_not true e = tt
not_not false e = subst T e tt

pub positive : (n : ℕ) → eqb n 0 ≡ false → 1 ≤ n
positive zero e = absurd (true_not_false e)
positive (suc n) e = omega arith

by : (b : Bool) (a c : ℕ) → ltb a c ≡ b → (a < c) ⊎ (c ≤ a)
by true a c e = inl (ltb-true _ _ e)
by false a c e = inr (ltb-false _ _ e)

pub split : (a c : ℕ) → (a < c) ⊎ (c ≤ a)
split a c = by (ltb a c) a c refl

-- ---- a number that is not 19
abbrev pub Not19 : ℕ → Type 0
Not19 n = n ≡ 19 → ⊥

pub before_19 : {n : ℕ} → n < 19 → Not19 n
before_19 l e = omega (arith, l, e)

-- one of three
pub one_not_19 : (n a b c : ℕ) → (n ≡ a) ⊎ ((n ≡ b) ⊎ (n ≡ c)) → Not19 a → Not19 b → Not19 c → Not19 n
one_not_19 n a b c (inl e) i j k x = i (sym e ∙ x)
one_not_19 n a b c (inr (inl e)) i j k x = j (sym e ∙ x)
one_not_19 n a b c (inr (inr e)) i j k x = k (sym e ∙ x)
