-- A part of a list that a loop goes through, from f up to t or the end: how long it is, what stands in it, and the numbers of the loop. It says nothing of the crate, and can be copied as it stands.
use mathlib.Core.Path.{◌≡◌, refl, sym, ap, ◌∙◌}
use Prim.Native.Nat.{ℕ, zero, suc, ◌+◌, ◌-◌, ◌<◌, ◌≤◌}
use native.Mathlib.Omega.{arith}
use native.Mathlib.Nat.{not-suc-le-zero, le_of_suc-le-suc, add-suc, add-zero}
use mathlib.Core.List.{List, [], ◌∷◌}
use mathlib.Core.Bool.{Bool, true, false, not}
use lib.Dec.{T, ltb, ltb→lt, nltb→le}
use lib.ListN.{length, take, drop, get_or, length-drop}

less_self : (m : ℕ) → 0 ≡ m - (m - 0)
less_self m = omega arith

none : (j : ℕ) → 0 ≡ 0 - (0 - j)
none j = omega arith

one_up : (m j : ℕ) → suc (m - (m - j)) ≡ suc m - (suc m - suc j)
one_up m j = omega arith

small : (n t : ℕ) → t ≤ n → n - (n - t) ≡ t
small n t h = omega (arith, h)

large : (n t : ℕ) → n ≤ t → n - (n - t) ≡ n
large n t h = omega (arith, h)

less : (n f t : ℕ) → t ≤ n → t - f ≤ n - f
less n f t h = omega (arith, h)

weak : (t n : ℕ) → t < n → t ≤ n
weak t n h = omega (arith, h)

by_size : (n f t : ℕ) (b : Bool) → (T b → t ≤ n) → (T (not b) → n ≤ t) → (n - f) - ((n - f) - (t - f)) ≡ (n - (n - t)) - f
by_size n f t true y z = small (n - f) (t - f) (less n f t (y tt)) ∙ ap (λ (m : ℕ). m - f) (sym (small n t (y tt)))
by_size n f t false y z = large (n - f) (t - f) (less t f n (z tt)) ∙ ap (λ (m : ℕ). m - f) (sym (large n t (z tt)))

first_none : (k : ℕ) → k ≡ 0 + k
first_none k = omega arith

first_more : (f k : ℕ) → suc (f + k) ≡ suc f + k
first_more f k = omega arith

nums : (n f t : ℕ) → (n - f) - ((n - f) - (t - f)) ≡ (n - (n - t)) - f
nums n f t = by_size n f t (ltb t n) (λ h. weak t n (ltb→lt t n h)) (λ h. nltb→le t n h)

pub one_more : (i : ℕ) → i + 1 ≡ suc i
one_more i = add-suc i zero ∙ ap suc (add-zero i)

module _ {A : Type 0} where
  len_take : (j : ℕ) (l : List A) → length (take j l) ≡ length l - (length l - j)
  len_take zero l = less_self (length l)
  len_take (suc j) [] = none (suc j)
  len_take (suc j) (x ∷ l) = ap suc (len_take j l) ∙ one_up (length l) j

  pub len_part : (l : List A) (f t : ℕ) → length (take (t - f) (drop f l)) ≡ (length l - (length l - t)) - f
  len_part l f t = len_take (t - f) (drop f l) ∙ ap (λ (m : ℕ). m - (m - (t - f))) (length-drop f l) ∙ nums (length l) f t

  at_take : (d : A) (j : ℕ) (l : List A) (k : ℕ) → k < length (take j l) → get_or (take j l) k d ≡ get_or l k d
  at_take d zero l k h = absurd (not-suc-le-zero h)
  at_take d (suc j) [] k h = refl
  at_take d (suc j) (x ∷ l) zero h = refl
  at_take d (suc j) (x ∷ l) (suc k) h = at_take d j l k (le_of_suc-le-suc h)

  at_drop : (d : A) (f : ℕ) (l : List A) (k : ℕ) → get_or (drop f l) k d ≡ get_or l (f + k) d
  at_drop d zero l k = ap (λ (m : ℕ). get_or l m d) (first_none k)
  at_drop d (suc f) [] k = refl
  at_drop d (suc f) (x ∷ l) k = at_drop d f l k ∙ ap (λ (m : ℕ). get_or (x ∷ l) m d) (first_more f k)

  pub at_part : (d : A) (l : List A) (f j k : ℕ) → k < length (take j (drop f l)) → get_or l (f + k) d ≡ get_or (take j (drop f l)) k d
  at_part d l f j k h = sym (at_take d j (drop f l) k h ∙ at_drop d f l k)

  pub take_all : (l : List A) → take (length l) l ≡ l
  take_all [] = refl
  take_all (x ∷ l) = ap (λ (r : List A). x ∷ r) (take_all l)

-- the numbers: the place is f + k, the end e, the count e - f
pub fewer : (k n : ℕ) → k < n → n - (k + 1) < n - k
fewer k n l = omega (arith, l)

pub starts : (n : ℕ) → 0 < suc n
starts n = omega arith

pub within : (k n : ℕ) → k < n → k + 1 < suc n
within k n l = omega (arith, l)

pub inside : (f k e : ℕ) → f + k < e → k < e - f
inside f k e l = omega (arith, l)

pub at_end : (f k e : ℕ) → k < suc (e - f) → e ≤ f + k → k ≡ e - f
at_end f k e l m = omega (arith, l, m)

pub below : (f k n t : ℕ) → f + k < n - (n - t) → f + k < n
below f k n t l = omega (arith, l)

pub from_first : (f : ℕ) → f ≡ f + 0
from_first f = omega arith
