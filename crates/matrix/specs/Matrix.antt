-- The operations of population_focei_2d.rs on pairs and two by two matrices, in the source's order.
-- A pair is a list of its two floats, and a matrix the list of its two rows.
use Rattle.std.specs.Prelude.{Bool, true, List, [], ◌∷◌, ℕ, get_or, Float, None, Option, Some}
use Rattle.std.specs.Float.{nan}
use Rattle.std.specs.Float.Ieee.{neg, le}
use Rattle.float64.specs.Arithmetic.{◌+ᶠ◌, ◌-ᶠ◌, ◌*ᶠ◌, ◌/ᶠ◌, word}
use Rattle.float64.specs.Float64.{nonfinite}
use Rattle.float64.specs.Pick.{pick}
use Rattle.matrix.specs.declared.Matrix.{Matrix}

abbrev pub pair : {X : Type 0} → X → X → List X
pair x y = x ∷ y ∷ []

-- the entry of a pair, and of a matrix by row and column
abbrev pub at : List Float → ℕ → Float
at v i = get_or v i nan

abbrev pub entry : List (List Float) → ℕ → ℕ → Float
entry m i j = at (get_or m i []) j

-- a matrix that a struct holds, as an array, and back
abbrev pub array_of : Matrix → List (List Float)
array_of m = pair (pair m.m00 m.m01) (pair m.m10 m.m11)

abbrev pub matrix_of : List (List Float) → Matrix
matrix_of a = record { m00 = entry a 0 0; m01 = entry a 0 1; m10 = entry a 1 0; m11 = entry a 1 1 }

unfoldable pub sum : List (List Float) → List (List Float) → List (List Float)
sum l r =
    pair (pair (entry l 0 0 +ᶠ entry r 0 0) (entry l 0 1 +ᶠ entry r 0 1))
    (pair (entry l 1 0 +ᶠ entry r 1 0) (entry l 1 1 +ᶠ entry r 1 1))

unfoldable pub determinant : List (List Float) → Float
determinant m = entry m 0 0 *ᶠ entry m 1 1 -ᶠ entry m 0 1 *ᶠ entry m 1 0

unfoldable pub product : List (List Float) → List Float → List Float
product m v =
    pair (entry m 0 0 *ᶠ at v 0 +ᶠ entry m 0 1 *ᶠ at v 1)
    (entry m 1 0 *ᶠ at v 0 +ᶠ entry m 1 1 *ᶠ at v 1)

unfoldable pub dot : List Float → List Float → Float
dot l r = at l 0 *ᶠ at r 0 +ᶠ at l 1 *ᶠ at r 1

-- ---- the inverse

unfoldable pub inverse : List (List Float) → Float → List (List Float)
inverse m det =
    pair (pair (entry m 1 1 /ᶠ det) (neg (entry m 0 1) /ᶠ det))
    (pair (neg (entry m 1 0) /ᶠ det) (entry m 0 0 /ᶠ det))

-- the inverse and the determinant, or none
pub data Inverse : Type 0 where
  some : List (List Float) → Float → Inverse
  none : Inverse

-- what each case of the code's answer says of the matrix m
unfoldable pub answer : List (List Float) → Option Float → Inverse
answer m (Some det) = some (inverse m det) det
answer m None = none

unfoldable pub has_nonfinite_entry : List (List Float) → Bool
has_nonfinite_entry m =
    pick (nonfinite (entry m 0 0)) true
    (pick (nonfinite (entry m 0 1)) true
    (pick (nonfinite (entry m 1 0)) true
    (nonfinite (entry m 1 1))))

-- 1e-12
abbrev pub tiny : Float
tiny = word 0x3d71_9799_812d_ea11

unfoldable pub inverse_positive : List (List Float) → Inverse
inverse_positive m =
    let det = determinant m in
    pick (has_nonfinite_entry m) none
    (pick (le (entry m 0 0) (word 0)) none
    (pick (le (entry m 1 1) (word 0)) none
    (pick (nonfinite det) none
    (pick (le det (tiny *ᶠ entry m 0 0 *ᶠ entry m 1 1)) none
    (some (inverse m det) det)))))
