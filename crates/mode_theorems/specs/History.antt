-- Histories of the one-effect search: the settings of document 01's domain, and the histories of its rules.
use Rattle.std.specs.Prelude.{◌≡◌, List, ℕ, T, not, Float}
use Rattle.std.specs.Float.{binary64}
use Rattle.std.specs.Float.Ieee.{is_nan, fits, le}
use Rattle.float64.specs.Arithmetic.{word, edge}
use Rattle.mode.specs.declared.population_focei.Settings.{Settings}
use Rattle.mode.specs.declared.population_focei.Conditional.{Conditional}
use Rattle.mode.specs.declared.population_focei.Search.{Search}
use Rattle.mode.specs.Rules.{request, advance, start}
use Rattle.mode_theorems.specs.Histories.{led_from, Answered}
use Rattle.mode.specs.declared.Request.{Request}
use Rattle.mode.specs.declared.Request.TheVariants.{Point, Mode, Refused}

-- ---- document 01's domain: eta_bound 2^-10 to 16, omega 2^-20 to 2^20, the tolerance as clamped, 1e-12 to 1e-8, any warm start.
-- Each is a float of the format, as every value of the code is.
pub record Domain (s : Settings) : Type 0 where
  pub fits_bound : T (fits binary64 s.eta_bound)
  pub bound_low : T (le (word 0x3f50_0000_0000_0000) s.eta_bound)
  pub bound_high : T (le s.eta_bound edge)
  pub omega_low : T (le (word 0x3eb0_0000_0000_0000) s.omega)
  pub omega_high : T (le s.omega (word 0x4130_0000_0000_0000))
  pub tolerance_low : T (le (word 0x3d71_9799_812d_ea11) s.tolerance)
  pub tolerance_high : T (le s.tolerance (word 0x3e45_798e_e230_8c3a))
  pub fits_warm : T (fits binary64 s.warm)

-- ---- a history of the rules
-- c is an evaluation of the point that was asked for. A point that is NaN gets 7 and is never evaluated, and no score of a session is NaN.
pub record Answers (q : Request Float) (c : Conditional) : Type 0 where
  pub asked : q ≡ Point c.eta
  pub eta_number : T (not (is_nan c.eta))
  pub score_number : T (not (is_nan c.score))

abbrev pub after_from : Settings → Search → List Conditional → Search
after_from s x h = led_from (advance s) x h

abbrev pub FollowsFrom : Settings → Search → List Conditional → Type 0
FollowsFrom s x h = Answered Answers (request s) (advance s) x h

-- the search that the history leads to
abbrev pub after : Settings → List Conditional → Search
after s h = after_from s start h

-- the history follows the rules: each point is the one that was asked for
abbrev pub Follows : Settings → List Conditional → Type 0
Follows s h = FollowsFrom s start h

-- what is asked now: one point, or none
unfoldable pub asks : Request Float → ℕ
asks (Point p) = 1
asks Mode = 0
asks (Refused n) = 0
