-- Document 01's terms for a search with one effect, each written out by itself, to be held beside document 01 and `mode` of
-- population_focei.rs. None is the rules' own: that the rules' points and tests are these is proved.
use Rattle.std.specs.Prelude.{◌⊎◌, Bool, ◌&&◌, List, [], ◌∷◌, ℕ, zero, suc, ◌+◌, T, pos, Float}
use Rattle.std.specs.Float.{nan, binary64}
use Rattle.std.specs.Float.Ieee.{of_int, lt, le, neg}
use Rattle.float64.specs.Arithmetic.{◌+ᶠ◌, ◌-ᶠ◌, ◌*ᶠ◌, ◌/ᶠ◌, word, one}
use Rattle.float64.specs.Float64.{abs}
use Rattle.float64.specs.Pick.{pick}
use Rattle.mode.specs.declared.population_focei.Settings.{Settings}
use Rattle.mode.specs.declared.population_focei.Conditional.{Conditional}

-- ---- the grid
unfoldable pub etas : List Conditional → List Float
etas [] = []
etas (c ∷ h) = c.eta ∷ etas h

-- document 01's points -L + L·i/8: n of them, from the i-th on
unfoldable pub grid_from : Float → ℕ → ℕ → List Float
grid_from limit zero i = []
grid_from limit (suc n) i = (neg limit +ᶠ limit *ᶠ of_int binary64 (pos i) /ᶠ word 0x4020_0000_0000_0000) ∷ grid_from limit n (i + 1)

-- i = 0..16
abbrev pub grid_points : Settings → List Float
grid_points s = grid_from s.eta_bound 17 0

-- the score of the i-th point, the source's `grid[i].score`; where there is none, NaN
unfoldable pub score_at : List Conditional → ℕ → Float
score_at [] i = nan
score_at (c ∷ h) zero = c.score
score_at (c ∷ h) (suc i) = score_at h i

-- ---- cells: two points, neighbours on the grid; and later the two ends of the bracket
pub record Cell : Type 0 where
  pub left : Conditional
  pub right : Conditional

-- the source's `windows(2)`
unfoldable pub neighbours_from : Conditional → List Conditional → List Cell
neighbours_from a [] = []
neighbours_from a (b ∷ t) = record { left = a; right = b } ∷ neighbours_from b t

unfoldable pub neighbours : List Conditional → List Cell
neighbours [] = []
neighbours (a ∷ t) = neighbours_from a t

unfoldable pub filter : (Cell → Bool) → List Cell → List Cell
filter test [] = []
filter test (k ∷ l) = pick (test k) (k ∷ filter test l) (filter test l)

-- document 01's upward cell: score ≤ 0 at the left and > 0 at the right
unfoldable pub is_upward : Cell → Bool
is_upward k = le k.left.score (word 0) && lt (word 0) k.right.score

abbrev pub upward : List Conditional → List Cell
upward h = filter is_upward (neighbours h)

-- document 01's fall: from above 0 to ≤ 0
unfoldable pub is_fall : Cell → Bool
is_fall k = lt (word 0) k.left.score && le k.right.score (word 0)

abbrev pub falls : List Conditional → List Cell
falls h = filter is_fall (neighbours h)

-- ---- the bracket
-- a point tried replaces one end: the right one where its score is above 0, else the left one
unfoldable pub narrowed : Cell → Conditional → Cell
narrowed k c = pick (lt (word 0) c.score) (record { left = k.left; right = c }) (record { left = c; right = k.right })

-- the bracket after the points tried: the final bracket, after all of them
unfoldable pub bracket_from : Cell → List Conditional → Cell
bracket_from k [] = k
bracket_from k (c ∷ h) = bracket_from (narrowed k c) h

-- the points tried lie in the bracket at their time
unfoldable pub InBracket : Cell → List Conditional → Type 0
InBracket k [] = Unit
InBracket k (c ∷ h) = T (le k.left.eta c.eta) × T (le c.eta k.right.eta) × InBracket (narrowed k c) h

-- document 01's settled: bracket width ≤ tolerance, or |score|/(1/omega + information) ≤ tolerance
abbrev pub Settled : Settings → Cell → Conditional → Type 0
Settled s k c =
    T (le (k.right.eta -ᶠ k.left.eta) s.tolerance) ⊎ T (le (abs c.score /ᶠ (one /ᶠ s.omega +ᶠ c.information)) s.tolerance)

-- the warm start is tried if strictly inside the cell
unfoldable pub warm_trials : Settings → Cell → ℕ
warm_trials s k = pick (lt k.left.eta s.warm && lt s.warm k.right.eta) 1 0
