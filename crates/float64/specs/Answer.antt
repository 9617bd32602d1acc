-- What was asked for, or a refusal with document 01's number.
use Rattle.std.specs.Prelude.{ℕ}

pub data Answer (X : Type 0) : Type 0 where
  given : X → Answer X
  refused : ℕ → Answer X

-- document 01's number of a refusal, and 0 for an answer
unfoldable pub number_of : {X : Type 0} → Answer X → ℕ
number_of (given x) = 0
number_of (refused number) = number

-- what f makes of the answer
unfoldable pub through : {X Y : Type 0} → (X → Y) → Answer X → Answer Y
through f (given x) = given (f x)
through f (refused number) = refused number

-- the answer, or else what was there before
unfoldable pub or_old : {X : Type 0} → X → Answer X → X
or_old old (given x) = x
or_old old (refused number) = old
