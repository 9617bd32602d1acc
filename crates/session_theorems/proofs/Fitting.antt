-- The points that a search asks for are floats of the format, so that their bits tell them: where eta_bound and the warm start are. Assumes nothing.
use mathlib.Core.Path.{◌≡◌, subst}
use Prim.Native.Nat.{ℕ}
use native.Mathlib.Omega.{arith}
use lib.Dec.{T}
use lib.Ieee.{Float, binary64, fits, lt}
use lib.Ieee.Bits.{of_bits-fits}
use lib.Ieee.Fits.{neg-fits, add-fits, sub-fits, mul-fits}
use Rattle.float64.specs.Arithmetic.{◌*ᶠ◌, word, half}
use Rattle.float64.specs.Float64.{clamp}
use Rattle.float64.specs.Pick.{both}
use Rattle.matrix.specs.Matrix.{Inverse, some, none}
use Rattle.matrix.specs.declared.Pair.{Pair}
use Rattle.mode.specs.Rules.{grid_point, secant_point, midpoint, request_at, request}
use Rattle.mode.specs.declared.population_focei.Settings.{Settings}
use Rattle.mode.specs.declared.population_focei.Conditional.{Conditional}
use Rattle.mode.specs.declared.population_focei.Stage.{Stage}
use Rattle.mode.specs.declared.population_focei.Stage.TheVariants.{Grid, Warm, Secant, Halving}
use Rattle.mode.specs.declared.population_focei.Search.{Search}
use Rattle.mode_2d.specs.Rules as R2
use Rattle.mode_2d.specs.declared.population_focei_2d.Settings2.{Settings2}
use Rattle.mode_2d.specs.declared.population_focei_2d.Conditional2.{Conditional2}
use Rattle.mode_2d.specs.declared.population_focei_2d.NewtonStep.{NewtonStep}
use Rattle.mode_2d.specs.declared.population_focei_2d.Stage2.{Stage2}
use Rattle.mode_2d.specs.declared.population_focei_2d.Stage2.TheVariants.{Zero, Start, Trial, Found, Halted}
use Rattle.mode_2d.specs.declared.population_focei_2d.Search2.{Search2}
use Rattle.mode.specs.declared.Request.{Request}
use Rattle.mode.specs.declared.Request.TheVariants as Asks

abbrev pub Fits : Float → Type 0
Fits x = T (fits binary64 x)

pub record FitsBoth (p : Pair) : Type 0 where
  pub first : Fits p.first
  pub second : Fits p.second

clamp_fits : (x low high : Float) → Fits x → Fits low → Fits high → Fits (clamp x low high)
unfolding clamp
clamp_fits x low high a b c = both Fits (lt x low) b (both Fits (lt high x) c a)

pub zero_fits : FitsBoth (record { first = word 0; second = word 0 })
zero_fits = record { first = of_bits-fits binary64 0; second = of_bits-fits binary64 0 }

-- ---- one effect
FitsPoint : Request Float → Type 0
FitsPoint (Asks.Point x) = Fits x
FitsPoint Asks.Mode = Unit
FitsPoint (Asks.Refused n) = Unit

secant_fits : (l r : Conditional) → Fits (secant_point l r)
unfolding secant_point
secant_fits l r = clamp_fits _ _ _ (sub-fits binary64 _ _) (add-fits binary64 _ _) (sub-fits binary64 _ _)

grid_fits : (bound : Float) (i : ℕ) → Fits (grid_point bound i)
unfolding grid_point
grid_fits bound i = add-fits binary64 _ _

middle_fits : (l r : Conditional) → Fits (midpoint l r)
unfolding midpoint
middle_fits l r = mul-fits binary64 _ _

asked_fits : (st : Stage) (s : Settings) (x : Search) → Fits s.warm → FitsPoint (request_at st s x)
unfolding request_at FitsPoint
asked_fits Grid s x w = both FitsPoint _ (grid_fits _ _) (both FitsPoint _ tt (both FitsPoint _ tt tt))
asked_fits Warm s x w = w
asked_fits Secant s x w = both FitsPoint _ tt (secant_fits _ _)
asked_fits Halving s x w = both FitsPoint _ tt (both FitsPoint _ (middle_fits _ _) tt)

pub point_fits : (s : Settings) (x : Search) (p : Float) → Fits s.warm → request s x ≡ Asks.Point p → Fits p
unfolding FitsPoint
point_fits s x p w e = subst FitsPoint e (asked_fits x.stage s x w)

-- ---- two effects: the trial that is awaited is kept in the search
abbrev pub TrialFits : Search2 → Type 0
TrialFits x = FitsBoth x.trial

module _ (s : Settings2) (bound : Fits s.eta_bound) where
  reduced_fits : (eta scale direction : Float) → Fits (R2.reduced s.eta_bound eta scale direction)
  unfolding R2.reduced
  reduced_fits eta scale direction = clamp_fits _ _ _ (sub-fits binary64 _ _) (neg-fits binary64 _ bound) bound

  trial_fits : (step : NewtonStep) (reduction : ℕ) → FitsBoth (R2.trial_point s.eta_bound step reduction)
  unfolding R2.trial_point
  trial_fits step reduction = record { first = reduced_fits _ _ _; second = reduced_fits _ _ _ }

  between_fits : (st : Stage2) (seed : ℕ) (c b : Conditional2) → TrialFits (R2.between st seed c b)
  unfolding R2.between
  between_fits st seed c b = zero_fits

  finish_fits : (seed : ℕ) (c b : Conditional2) → TrialFits (R2.finish s seed c b)
  unfolding R2.finish
  finish_fits seed c b = both TrialFits _ (between_fits _ _ _ _) (both TrialFits _ (between_fits _ _ _ _) (both TrialFits _ (between_fits _ _ _ _) (between_fits _ _ _ _)))

  try_fits : (seed round from : ℕ) (c b : Conditional2) (step : NewtonStep) → TrialFits (R2.try_from s seed round from c b step)
  unfolding R2.try_from R2.trying
  try_fits seed round from c b step = both TrialFits _ (trial_fits step _) (finish_fits seed c b)

  descend_by_fits : (i : Inverse) (seed round from : ℕ) (c b : Conditional2) → TrialFits (R2.descend_by i s seed round from c b)
  unfolding R2.descend_by
  descend_by_fits none seed round from c b = between_fits _ _ _ _
  descend_by_fits (some inverse det) seed round from c b = try_fits seed round from c b _

  descend_fits : (seed round from : ℕ) (c b : Conditional2) → TrialFits (R2.descend s seed round from c b)
  unfolding R2.descend
  descend_fits seed round from c b = descend_by_fits _ seed round from c b

  round_fits : (seed round : ℕ) (c b : Conditional2) → TrialFits (R2.begin_round s seed round c b)
  unfolding R2.begin_round
  round_fits seed round c b = both TrialFits _ (finish_fits seed c b) (descend_fits seed round 0 c b)

  advance_at_fits : (st : Stage2) (x : Search2) (c : Conditional2) → TrialFits x → TrialFits (R2.advance_at st s x c)
  unfolding R2.advance_at R2.take R2.leave
  advance_at_fits Zero x c f = between_fits _ _ _ _
  advance_at_fits Start x c f = round_fits _ _ _ _
  advance_at_fits Trial x c f =
      both TrialFits _ (both TrialFits _ (round_fits _ _ _ _) (finish_fits _ _ _)) (both TrialFits _ (descend_fits _ _ _ _ _) (finish_fits _ _ _))
  advance_at_fits Found x c f = f
  advance_at_fits (Halted n) x c f = f

  pub advance_fits : (x : Search2) (c : Conditional2) → TrialFits x → TrialFits (R2.advance s x c)
  advance_fits x c f = advance_at_fits x.stage x c f

  start_point_fits : (seed : ℕ) → FitsBoth s.warm → FitsBoth (R2.start_point s seed)
  unfolding R2.start_point
  start_point_fits seed w =
      let h : Fits (half *ᶠ s.eta_bound) = mul-fits binary64 _ _ in
      let n = neg-fits binary64 _ h in
      let z = of_bits-fits binary64 0 in
      both FitsBoth _ w (both FitsBoth _ zero_fits (both FitsBoth _ (record { first = h; second = z }) (both FitsBoth _ (record { first = n; second = z })
      (both FitsBoth _ (record { first = z; second = h }) (record { first = z; second = n })))))

  request_at_fits : (st : Stage2) (x : Search2) (p : Pair) → TrialFits x → FitsBoth s.warm → R2.request_at st s x ≡ Asks.Point p → FitsBoth p
  unfolding R2.request_at
  request_at_fits Zero x p f w e = let q : record { first = word 0; second = word 0 } ≡ p = cc in subst FitsBoth q zero_fits
  request_at_fits Start x p f w e = let q : R2.start_point s x.seed ≡ p = cc in subst FitsBoth q (start_point_fits x.seed w)
  request_at_fits Trial x p f w e = let q : x.trial ≡ p = cc in subst FitsBoth q f
  request_at_fits Found x p f w e = absurd (let z : ◌≡◌ {A = ℕ} 0 1 = cc in omega arith)
  request_at_fits (Halted n) x p f w e = absurd (let z : ◌≡◌ {A = ℕ} 0 1 = cc in omega arith)

  pub point2_fits : (x : Search2) (p : Pair) → TrialFits x → FitsBoth s.warm → R2.request s x ≡ Asks.Point p → FitsBoth p
  point2_fits x p f w e = request_at_fits x.stage x p f w e

pub start_fits : TrialFits R2.start
unfolding R2.start R2.between
start_fits = zero_fits
