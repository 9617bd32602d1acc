-- What is claimed of one search with one effect, over every history of its rules.
use Rattle.std.specs.Prelude.{◌≡◌, ◌⊎◌, ℕ, ◌+◌, ◌≤◌, take, drop, length, T}
use mathlib.Core.List.{List, [], ◌∷◌, Memᴰ}
use Rattle.std.specs.Float.Ieee.{lt, le}
use Rattle.float64.specs.Arithmetic.{word}
use Rattle.float64.specs.Float64.{abs}
use Rattle.mode.specs.declared.population_focei.Settings.{Settings}
use Rattle.mode.specs.declared.population_focei.Conditional.{Conditional}
use Rattle.mode.specs.Rules.{request}
use Rattle.mode_theorems.specs.Terms.{etas, grid_points, score_at, Cell, upward, falls, bracket_from, InBracket, Settled, warm_trials}
use Rattle.mode_theorems.specs.History.{Domain, Follows, after, asks}
use Rattle.mode.specs.declared.Request.TheVariants.{Mode, Refused}

-- the most evaluations that a search asks for: the grid, the warm start, the secant steps and the halvings
abbrev pub ceiling : ℕ
ceiling = 17 + 1 + 16 + 48

abbrev pub grid : List Conditional → List Conditional
grid h = take 17 h

abbrev pub trials : List Conditional → List Conditional
trials h = drop 17 h

abbrev pub final_bracket : Cell → List Conditional → Cell
final_bracket cell h = bracket_from cell (trials h)

-- the points g are the grid, have passed 13 and 14, and their single upward cell is `cell`
pub record Screened (s : Settings) (g : List Conditional) (cell : Cell) : Type 0 where
  pub is_grid : etas g ≡ grid_points s
  pub first_below : T (lt (score_at g 0) (word 0))
  pub last_above : T (lt (word 0) (score_at g 16))
  pub no_fall : falls g ≡ []
  pub single : upward g ≡ cell ∷ []

-- m is the best point of a history h whose trials began in the cell
pub record Best (cell : Cell) (h : List Conditional) (m : Conditional) : Type 0 where
  -- it is one of the points tried, and lies in the cell, ends included
  pub member : Memᴰ m h
  pub in_left : T (le cell.left.eta m.eta)
  pub in_right : T (le m.eta cell.right.eta)
  -- its absolute score is at most that at each end of the cell, and at every point tried after the grid
  pub least_left : T (le (abs m.score) (abs cell.left.score))
  pub least_right : T (le (abs m.score) (abs cell.right.score))
  pub least : (c : Conditional) → Memᴰ c (trials h) → T (le (abs m.score) (abs c.score))
  -- and so at either end of the final bracket
  pub best_left : T (le (abs m.score) (abs (final_bracket cell h).left.score))
  pub best_right : T (le (abs m.score) (abs (final_bracket cell h).right.score))
  -- the final bracket lies in the cell, and the score rises through 0 in it
  pub bracket_low : T (le cell.left.eta (final_bracket cell h).left.eta)
  pub bracket_order : T (le (final_bracket cell h).left.eta (final_bracket cell h).right.eta)
  pub bracket_high : T (le (final_bracket cell h).right.eta cell.right.eta)
  pub left_under : T (le (final_bracket cell h).left.score (word 0))
  pub right_above : T (lt (word 0) (final_bracket cell h).right.score)
  -- every point after the grid lies in the bracket at its time
  pub in_bracket : InBracket cell (trials h)

-- the mode m of a history h: the first 17 points are a grid with a single upward cell, and the best point is settled, by the final
-- bracket or by its own score and information
pub record Found (s : Settings) (h : List Conditional) (m : Conditional) : Type 0 where
  pub cell : Cell
  pub screened : Screened s (grid h) cell
  pub best : Best cell h m
  pub is_settled : Settled s (final_bracket cell h) m

-- ---- refused
-- 13: all 17 grid points were asked, and nothing more; the first score is 0 or above, or the last is 0 or below
pub record AtBound (s : Settings) (h : List Conditional) : Type 0 where
  pub is_grid : etas h ≡ grid_points s
  pub ends : T (le (word 0) (score_at h 0)) ⊎ T (le (score_at h 16) (word 0))

-- 14: all 17 grid points were asked, and nothing more; the ends are good, and the score falls between them
pub record Several (s : Settings) (h : List Conditional) : Type 0 where
  pub is_grid : etas h ≡ grid_points s
  pub first_below : T (lt (score_at h 0) (word 0))
  pub last_above : T (lt (word 0) (score_at h 16))
  pub fall : Cell
  pub is_fall : Memᴰ fall (falls h)

-- 15: after the grid the warm start, if strictly inside the cell, 16 secant steps and 48 halvings were tried, and the best point m is
-- not settled
pub record Unsettled (s : Settings) (h : List Conditional) (m : Conditional) : Type 0 where
  pub cell : Cell
  pub screened : Screened s (grid h) cell
  pub best : Best cell h m
  pub all_tried : length (trials h) ≡ warm_trials s cell + 16 + 48
  pub not_settled : Settled s (final_bracket cell h) m → ⊥

-- what holds of every history h that follows the rules
pub record Searched (s : Settings) (h : List Conditional) : Type 0 where
  -- no more points are asked than the ceiling, the one that is awaited counted
  pub at_most : length h + asks (request s (after s h)) ≤ ceiling
  pub found : request s (after s h) ≡ Mode → Found s h (after s h).best
  pub at_bound : request s (after s h) ≡ Refused 13 → AtBound s h
  pub several : request s (after s h) ≡ Refused 14 → Several s h
  pub unsettled : request s (after s h) ≡ Refused 15 → Unsettled s h (after s h).best
  -- there is no other number
  pub numbers : (n : ℕ) → request s (after s h) ≡ Refused n → (n ≡ 13) ⊎ ((n ≡ 14) ⊎ (n ≡ 15))

abbrev pub OneSearch : Type 0
OneSearch = (s : Settings) → Domain s → (h : List Conditional) → Follows s h → Searched s h
