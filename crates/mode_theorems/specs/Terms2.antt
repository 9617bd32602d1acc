-- Document 01's terms for a search with two effects, each written out by itself, to be held beside document 01 and `joint`,
-- `mode_from_seed` and `mode` of population_focei_2d.rs. None is the rules' own: that the rules' points and tests are these is
-- proved. `inverse_positive` is matrix's.
use Rattle.std.specs.Prelude.{◌≡◌, ◌⊎◌, not, List, [], ◌∷◌, T, Float}
use Rattle.std.specs.Float.Ieee.{neg, lt, le}
use Rattle.float64.specs.Arithmetic.{◌+ᶠ◌, ◌-ᶠ◌, ◌*ᶠ◌, word}
use Rattle.float64.specs.Float64.{abs, max}
use Rattle.float64.specs.Pick.{pick}
use Rattle.matrix.specs.Matrix.{none, inverse_positive}
use Rattle.matrix.specs.declared.Pair.{Pair}
use Rattle.mode_2d.specs.declared.population_focei_2d.Settings2.{Settings2}
use Rattle.mode_2d.specs.declared.population_focei_2d.Conditional2.{Conditional2}

-- ---- the starts
unfoldable pub etas : List Conditional2 → List Pair
etas [] = []
etas (c ∷ h) = c.eta ∷ etas h

abbrev pub point : Float → Float → Pair
point first second = record { first = first; second = second }

-- document 01's six starts: warm, zero, (h, 0), (-h, 0), (0, h), (0, -h), h = L/2
unfoldable pub start_points : Settings2 → List Pair
start_points s =
    let h = word 0x3fe0_0000_0000_0000 *ᶠ s.eta_bound in
    s.warm
    ∷ point (word 0) (word 0)
    ∷ point h (word 0)
    ∷ point (neg h) (word 0)
    ∷ point (word 0) h
    ∷ point (word 0) (neg h)
    ∷ []

-- ---- a point with the prior
-- the prior's part of the score: the precision times eta, by rows
unfoldable pub prior0 : Settings2 → Conditional2 → Float
prior0 s c = s.precision.m00 *ᶠ c.eta.first +ᶠ s.precision.m01 *ᶠ c.eta.second

unfoldable pub prior1 : Settings2 → Conditional2 → Float
prior1 s c = s.precision.m10 *ᶠ c.eta.first +ᶠ s.precision.m11 *ᶠ c.eta.second

-- document 01's joint, the penalised negative log likelihood: nll + 0.5 · (eta · (precision · eta))
unfoldable pub joint : Settings2 → Conditional2 → Float
joint s c = c.nll +ᶠ word 0x3fe0_0000_0000_0000 *ᶠ (c.eta.first *ᶠ prior0 s c +ᶠ c.eta.second *ᶠ prior1 s c)

-- document 01's norm: the larger absolute penalised score
unfoldable pub norm : Settings2 → Conditional2 → Float
norm s c = max (abs (c.score.first +ᶠ prior0 s c)) (abs (c.score.second +ᶠ prior1 s c))

-- joint at a is at most that at b
abbrev pub NoHigher : Settings2 → Conditional2 → Conditional2 → Type 0
NoHigher s a b = T (le (joint s a) (joint s b))

-- ---- candidates
-- 1e-3
abbrev pub resolution : Float
resolution = word 0x3f50_624d_d2f1_a9fc

-- L - 1e-6
unfoldable pub edge : Settings2 → Float
edge s = s.eta_bound -ᶠ word 0x3eb0_c6f7_a0b5_ed8d

-- 13: norm above 1e-3, or an eta with |eta| ≥ L - 1e-6
abbrev pub IsUnresolved : Settings2 → Conditional2 → Type 0
IsUnresolved s c =
    T (lt resolution (norm s c)) ⊎ (T (le (edge s) (abs c.eta.first)) ⊎ T (le (edge s) (abs c.eta.second)))

-- 13 passed. Where nothing is NaN: norm ≤ 1e-3, and |eta| < L - 1e-6.
pub record Resolved (s : Settings2) (c : Conditional2) : Type 0 where
  pub small : T (not (lt resolution (norm s c)))
  pub inside0 : T (not (le (edge s) (abs c.eta.first)))
  pub inside1 : T (not (le (edge s) (abs c.eta.second)))

-- the larger coordinate difference
unfoldable pub distance : Conditional2 → Conditional2 → Float
distance a b = max (abs (a.eta.first -ᶠ b.eta.first)) (abs (a.eta.second -ᶠ b.eta.second))

-- 14: a candidate farther than 1e-3 from the best so far
abbrev pub IsFar : Conditional2 → Conditional2 → Type 0
IsFar c best = T (lt resolution (distance c best))

-- the better of a candidate and the best so far: the earlier at a tie
unfoldable pub better : Settings2 → Conditional2 → Conditional2 → Conditional2
better s c best = pick (lt (joint s c) (joint s best)) c best

-- ---- a round
-- 16: precision + information has no inverse
abbrev pub IsFlat : Settings2 → Conditional2 → Type 0
IsFlat s c =
    let p = s.precision in
    let i = c.information in
    inverse_positive (((p.m00 +ᶠ i.m00) ∷ (p.m01 +ᶠ i.m01) ∷ []) ∷ ((p.m10 +ᶠ i.m10) ∷ (p.m11 +ᶠ i.m11) ∷ []) ∷ []) ≡ none
