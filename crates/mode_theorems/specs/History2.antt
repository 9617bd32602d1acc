-- Histories of the two-effect search: the settings of document 01's domain, the histories of its rules, and which points of one are
-- starts and candidates.
use Rattle.std.specs.Prelude.{◌≡◌, Bool, true, false, List, [], ◌∷◌, ℕ, T, ltb, Float}
use Rattle.std.specs.Float.Ieee.{neg, le, eq}
use Rattle.std.specs.Float.Ieee.Scale.{finite}
use Rattle.float64.specs.Arithmetic.{word, edge}
use Rattle.float64.specs.Pick.{pick}
use Rattle.matrix.specs.Matrix.{entry, array_of, some, inverse_positive}
use Rattle.mode_2d.specs.declared.population_focei_2d.Settings2.{Settings2}
use Rattle.mode_2d.specs.declared.population_focei_2d.Conditional2.{Conditional2}
use Rattle.mode_2d.specs.declared.population_focei_2d.Stage2.{Stage2}
use Rattle.mode_2d.specs.declared.population_focei_2d.Stage2.TheVariants.{Zero, Start, Trial, Found, Halted}
use Rattle.mode_2d.specs.declared.population_focei_2d.Search2.{Search2}
use Rattle.mode_2d.specs.Rules.{request, advance, start}
use Rattle.mode_theorems.specs.Histories.{led_from, Answered}
use Rattle.mode.specs.declared.Request.{Request}
use Rattle.matrix.specs.declared.Pair.{Pair}
use Rattle.mode.specs.declared.Request.TheVariants.{Point, Mode, Refused}

-- from -bound to bound
pub record Within (bound x : Float) : Type 0 where
  pub low : T (le (neg bound) x)
  pub high : T (le x bound)

-- document 01's domain: an omega with diagonal entries from 2^-20 to 2^20, symmetric, that has an inverse, which is the settings'
-- precision. eta_bound and the warm start may be any floats.
pub record Accepted (omega : List (List Float)) (s : Settings2) : Type 0 where
  pub low0 : T (le (word 0x3eb0_0000_0000_0000) (entry omega 0 0))
  pub high0 : T (le (entry omega 0 0) (word 0x4130_0000_0000_0000))
  pub low1 : T (le (word 0x3eb0_0000_0000_0000) (entry omega 1 1))
  pub high1 : T (le (entry omega 1 1) (word 0x4130_0000_0000_0000))
  pub symmetric : T (eq (entry omega 0 1) (entry omega 1 0))
  pub det : Float
  pub inverse : inverse_positive omega ≡ some (array_of s.precision) det

-- ---- a history of the rules
-- c is an evaluation of the point that was asked for. Beyond -16..16 a point gets 7 and is never evaluated, and no nll of a session is
-- a NaN or an infinity.
pub record Answers (q : Request Pair) (c : Conditional2) : Type 0 where
  pub asked : q ≡ Point c.eta
  pub within0 : Within edge c.eta.first
  pub within1 : Within edge c.eta.second
  pub nll_finite : T (finite c.nll)

abbrev pub after_from : Settings2 → Search2 → List Conditional2 → Search2
after_from s x h = led_from (advance s) x h

abbrev pub FollowsFrom : Settings2 → Search2 → List Conditional2 → Type 0
FollowsFrom s x h = Answered Answers (request s) (advance s) x h

-- the search that the history leads to
abbrev pub after : Settings2 → List Conditional2 → Search2
after s h = after_from s start h

-- the history follows the rules: each point is the one that was asked for
abbrev pub Follows : Settings2 → List Conditional2 → Type 0
Follows s h = FollowsFrom s start h

-- what is asked now: one point, or none
unfoldable pub asks : Request Pair → ℕ
asks (Point p) = 1
asks Mode = 0
asks (Refused n) = 0

-- ---- what is read from a history, along the rules: which points are the starts, and where the rounds of each ended
abbrev pub is_start : Stage2 → Bool
is_start Zero = false
is_start Start = true
is_start Trial = false
is_start Found = false
is_start (Halted n) = false

-- the evaluations of the starts, each as the search was given it
unfoldable pub starts_from : Settings2 → Search2 → List Conditional2 → List Conditional2
starts_from s x [] = []
starts_from s x (c ∷ h) = pick (is_start x.stage) (c ∷ starts_from s (advance s x c) h) (starts_from s (advance s x c) h)

abbrev pub starts : Settings2 → List Conditional2 → List Conditional2
starts s h = starts_from s start h

-- the candidates: where the rounds of a start are over, and the search goes on to the next start or has its mode
abbrev pub with_candidate : ℕ → Search2 → List Conditional2 → List Conditional2
with_candidate k y q = pick (ltb k y.seed) (y.current ∷ q) q

unfoldable pub candidates_from : Settings2 → Search2 → List Conditional2 → List Conditional2
candidates_from s x [] = []
candidates_from s x (c ∷ h) = with_candidate x.seed (advance s x c) (candidates_from s (advance s x c) h)

abbrev pub candidates : Settings2 → List Conditional2 → List Conditional2
candidates s h = candidates_from s start h
