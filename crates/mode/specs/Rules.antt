-- The rules of the one-effect search, `mode` of population_focei.rs: which point it asks for, and what an evaluated point makes of it.
use Rattle.std.specs.Prelude.{Bool, true, false, ℕ, ◌+◌, ltb, eqb, pos, Float}
use Rattle.std.specs.Float.{binary64}
use Rattle.std.specs.Float.Ieee.{of_int, lt, le, neg}
use Rattle.float64.specs.Arithmetic.{◌+ᶠ◌, ◌-ᶠ◌, ◌*ᶠ◌, ◌/ᶠ◌, word, half, one}
use Rattle.float64.specs.Float64.{abs, clamp}
use Rattle.float64.specs.Pick.{pick}
use Rattle.mode.specs.declared.population_focei.Settings.{Settings}
use Rattle.mode.specs.declared.population_focei.Conditional.{Conditional}
use Rattle.mode.specs.declared.population_focei.Stage.{Stage}
use Rattle.mode.specs.declared.population_focei.Stage.TheVariants.{Grid, Warm, Secant, Halving}
use Rattle.mode.specs.declared.population_focei.Search.{Search}
use Rattle.mode.specs.declared.Request.{Request}
use Rattle.mode.specs.declared.Request.TheVariants.{Point, Mode, Refused}

-- ---- literals: 0, 8, 0.1, 1e-4, 1e-8, 1e-12
abbrev pub nought : Float
nought = word 0

abbrev pub eight : Float
eight = word 0x4020_0000_0000_0000

abbrev pub tenth : Float
tenth = word 0x3fb9_9999_9999_999a

-- gradient_tolerance · 1e-4, clamped to 1e-12..1e-8
abbrev pub tightest : Float
tightest = word 0x3d71_9799_812d_ea11

abbrev pub loosest : Float
loosest = word 0x3e45_798e_e230_8c3a

unfoldable pub eta_tolerance : Float → Float
eta_tolerance gradient_tolerance = clamp (gradient_tolerance *ᶠ word 0x3f1a_36e2_eb1c_432d) tightest loosest

-- ---- the points that are asked for
-- -L + L·i/8
unfoldable pub grid_point : Float → ℕ → Float
grid_point eta_bound i = neg eta_bound +ᶠ eta_bound *ᶠ of_int binary64 (pos i) /ᶠ eight

abbrev pub width : Conditional → Conditional → Float
width left right = right.eta -ᶠ left.eta

-- the secant's zero, clamped a tenth of the width inside the bracket
unfoldable pub secant_point : Conditional → Conditional → Float
secant_point left right =
    let w = width left right in
    clamp (left.eta -ᶠ left.score *ᶠ w /ᶠ (right.score -ᶠ left.score)) (left.eta +ᶠ tenth *ᶠ w) (right.eta -ᶠ tenth *ᶠ w)

unfoldable pub midpoint : Conditional → Conditional → Float
midpoint left right = half *ᶠ (left.eta +ᶠ right.eta)

-- ---- tests
-- document 01's settled: by the bracket's width, or by the value's own score and information
unfoldable pub settled : Settings → Conditional → Conditional → Conditional → Bool
settled s value left right =
    pick (le (width left right) s.tolerance) true
    (le (abs value.score /ᶠ (one /ᶠ s.omega +ᶠ value.information)) s.tolerance)

-- a score above 0, and one of 0 or below
unfoldable pub is_above : Conditional → Bool
is_above c = lt nought c.score

unfoldable pub is_under : Conditional → Bool
is_under c = le c.score nought

-- a has the smaller absolute score
unfoldable pub is_closer : Conditional → Conditional → Bool
is_closer a b = lt (abs a.score) (abs b.score)

-- ---- what is asked
unfoldable pub request_at : Stage → Settings → Search → Request Float
request_at Grid s x =
    pick (ltb x.count 17) (Point (grid_point s.eta_bound x.count))
    (pick (le nought x.first) (Refused 13) (pick (is_under x.latest) (Refused 13) (Refused 14)))
request_at Warm s x = Point s.warm
request_at Secant s x = pick (settled s x.best x.left x.right) Mode (Point (secant_point x.left x.right))
request_at Halving s x =
    pick (settled s x.best x.left x.right) Mode
    (pick (ltb x.count 48) (Point (midpoint x.left x.right)) (Refused 15))

abbrev pub request : Settings → Search → Request Float
request s x = request_at x.stage s x

-- ---- what an evaluated point makes of the search
unfoldable pub first_score : Search → Conditional → Float
first_score x c = pick (eqb x.count 0) c.score x.first

-- the score falls from above 0 to 0 or below, here or before
unfoldable pub fell : Search → Conditional → Bool
fell x c = pick (is_above x.latest) (pick (is_under c) true x.fall) x.fall

-- the next grid point, compared with the latest one
unfoldable pub screened : Search → Conditional → Search
screened x c =
    record {
      stage = Grid;
      count = x.count + 1;
      first = first_score x c;
      latest = c;
      fall = fell x c;
      left = pick (is_under x.latest) (pick (is_above c) x.latest x.left) x.left;
      right = pick (is_under x.latest) (pick (is_above c) c x.right) x.right;
      best = x.best;
    }

-- the warm start, if strictly inside
unfoldable pub first_stage : Settings → Conditional → Conditional → Stage
first_stage s left right = pick (lt left.eta s.warm) (pick (lt s.warm right.eta) Warm Secant) Secant

-- the grid is done, and the search starts in its cell
unfoldable pub entered : Settings → Search → Search
entered s x =
    record {
      stage = first_stage s x.left x.right;
      count = 0;
      first = x.first;
      latest = x.latest;
      fall = x.fall;
      left = x.left;
      right = x.right;
      best = pick (is_closer x.left x.right) x.left x.right;
    }

-- 13 and 14 leave the search on the grid. So does a grid without an upward cell, which only a NaN score makes: then the right end is that
-- of the start, which is not above 0.
unfoldable pub chosen : Settings → Search → Search
chosen s x =
    pick (ltb x.count 17) x
    (pick (le nought x.first) x
    (pick (is_under x.latest) x
    (pick x.fall x
    (pick (is_above x.right) (entered s x) x))))

-- a point of the bracket: it replaces one end, and the best where it is closer
unfoldable pub tried : Stage → ℕ → Search → Conditional → Search
tried stage count x c =
    record {
      stage = stage;
      count = count;
      first = x.first;
      latest = x.latest;
      fall = x.fall;
      left = pick (is_above c) x.left c;
      right = pick (is_above c) c x.right;
      best = pick (is_closer c x.best) c x.best;
    }

-- 17 grid points, the warm start, 16 secant steps, 48 halvings. A search that has no point left to ask for stays as it is.
unfoldable pub advance_at : Stage → Settings → Search → Conditional → Search
advance_at Grid s x c = pick (ltb x.count 17) (chosen s (screened x c)) x
advance_at Warm s x c = tried Secant 0 x c
advance_at Secant s x c = pick (ltb x.count 15) (tried Secant (x.count + 1) x c) (tried Halving 0 x c)
advance_at Halving s x c = pick (ltb x.count 48) (tried Halving (x.count + 1) x c) x

abbrev pub advance : Settings → Search → Conditional → Search
advance s x c = advance_at x.stage s x c

-- ---- a search that has asked nothing
abbrev pub nowhere : Conditional
nowhere = record { eta = nought; nll = nought; score = nought; information = nought }

unfoldable pub start : Search
start = record { stage = Grid; count = 0; first = nought; latest = nowhere; fall = false; left = nowhere; right = nowhere; best = nowhere }
