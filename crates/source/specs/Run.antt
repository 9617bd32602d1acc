-- A run of the source, written as the source is: statements, `for` with `break`, `?` at an evaluation. Where the source calls the
-- simulator the run asks, and goes on with the answer.
use Rattle.std.specs.Prelude.{◌≡◌, Bool, List, [], ◌∷◌, ℕ, zero, suc, ◌+◌}
use Rattle.float64.specs.Pick.{pick}

-- it comes to a result (`Ok`), asks for the evaluation of a point and goes on with it, or stops with document 01's number (`Err`)
pub data Run (P C A : Type 0) : Type 0 where
  done : A → Run P C A
  ask : P → (C → Run P C A) → Run P C A
  stop : ℕ → Run P C A

-- ---- statements: `x ← e` is `let x = e?;`
infixl 20 ◌>>=◌
infixl 20 ◌>>◌
unfoldable pub ◌>>=◌ : {P C A B : Type 0} → Run P C A → (A → Run P C B) → Run P C B
done a >>= f = f a
ask p k >>= f = ask p (λ c. k c >>= f)
stop n >>= f = stop n

abbrev pub ◌>>◌ : {P C B : Type 0} → Run P C (Unit {0}) → Run P C B → Run P C B
◌>>◌ r q = ◌>>=◌ r (λ u. q)

infix 10 when◌then◌else◌
abbrev pub when◌then◌else◌ : {X : Type 0} → Bool → X → X → X
when◌then◌else◌ b x y = pick b x y

-- if b { return Err(n) }
abbrev pub err : {P C : Type 0} → Bool → ℕ → Run P C (Unit {0})
err b n = pick b (stop n) (done tt)

-- ---- loops: a round ends with the next one (`continue`, or its last line), or with `break`
pub data Flow (S : Type 0) : Type 0 where
  next : S → Flow S
  break : S → Flow S

unfoldable pub turn : {P C S : Type 0} → (S → Run P C S) → Flow S → Run P C S
turn more (next x) = more x
turn more (break x) = done x

-- n rounds from i on; x holds the variables that a round changes
unfoldable pub rounds : {P C S : Type 0} → (ℕ → S → Run P C (Flow S)) → ℕ → ℕ → S → Run P C S
rounds body i zero x = done x
rounds body i (suc n) x = body i x >>= turn (λ y. rounds body (i + 1) n y)

-- for i in 0..n
abbrev pub for : {P C S : Type 0} → ℕ → S → (ℕ → S → Run P C (Flow S)) → Run P C S
for n x body = rounds body 0 n x

-- for a in l
unfoldable pub each : {P C S A : Type 0} → List A → S → (A → S → Run P C (Flow S)) → Run P C S
each [] x body = done x
each (a ∷ l) x body = body a x >>= turn (λ y. each l y body)

-- ---- a run that is given answers
unfoldable pub play : {P C A : Type 0} → Run P C A → List C → Run P C A
play r [] = r
play (done a) (c ∷ h) = done a
play (ask p k) (c ∷ h) = play (k c) h
play (stop n) (c ∷ h) = stop n

-- an answer was asked for each time
unfoldable pub Asked : {P C A : Type 0} → Run P C A → List C → Type 0
Asked r [] = Unit
Asked (done a) (c ∷ h) = ⊥
Asked (ask p k) (c ∷ h) = Asked (k c) h
Asked (stop n) (c ∷ h) = ⊥

-- and each is of the point that was asked for: `at` is where an answer was had
unfoldable pub AskedAt : {P C A : Type 0} → (C → P) → Run P C A → List C → Type 0
AskedAt at r [] = Unit
AskedAt at (done a) (c ∷ h) = ⊥
AskedAt at (ask p k) (c ∷ h) = (at c ≡ p) × AskedAt at (k c) h
AskedAt at (stop n) (c ∷ h) = ⊥

-- what it says next
pub data Said (P A : Type 0) : Type 0 where
  asks : P → Said P A
  found : A → Said P A
  refused : ℕ → Said P A

-- of a result it says what is read from it
unfoldable pub said : {P C A B : Type 0} → (A → B) → Run P C A → Said P B
said view (done a) = found (view a)
said view (ask p k) = asks p
said view (stop n) = refused n
