-- What a search holds is of the format, with one effect and with two, from point to point. Assumes nothing.
use Prim.Native.Nat.{ℕ}
use lib.Ieee.{binary64}
use lib.Ieee.Bits.{of_bits-fits}
use lib.Ieee.Fits.{add-fits}
use Rattle.float64.specs.Arithmetic.{word}
use Rattle.float64.specs.Pick.{both}
use Rattle.matrix.specs.Matrix.{Inverse, some, none, dot}
use Rattle.matrix.specs.declared.Pair.{Pair}
use Rattle.mode.specs.Rules as R1
use Rattle.mode.specs.declared.population_focei.Settings.{Settings}
use Rattle.mode.specs.declared.population_focei.Conditional.{Conditional}
use Rattle.mode.specs.declared.population_focei.Stage.{Stage}
use Rattle.mode.specs.declared.population_focei.Stage.TheVariants.{Grid, Warm, Secant, Halving}
use Rattle.mode.specs.declared.population_focei.Search.{Search}
use Rattle.mode_2d.specs.Rules as R2
use Rattle.mode_2d.specs.declared.population_focei_2d.Settings2.{Settings2}
use Rattle.mode_2d.specs.declared.population_focei_2d.Conditional2.{Conditional2}
use Rattle.mode_2d.specs.declared.population_focei_2d.NewtonStep.{NewtonStep}
use Rattle.mode_2d.specs.declared.population_focei_2d.Stage2.{Stage2}
use Rattle.mode_2d.specs.declared.population_focei_2d.Stage2.TheVariants as S2
use Rattle.mode_2d.specs.declared.population_focei_2d.Search2.{Search2}
use Rattle.cache.specs.declared.CachedTerms.{CachedTerms}
use Rattle.subject.specs.declared.Sums.{Sums}
use Rattle.search.specs.Subjects as B
use Rattle.search.specs.declared.Fit.{Fit}
use Rattle.state_words.proofs.Back.{FitsPair, FitsPoint, FitsPoint2}
use Rattle.session_theorems.proofs.Evaluated.{FitsSums}
use Rattle.session_theorems.proofs.Fitting.{Fits}

zero : Fits (word 0)
zero = of_bits-fits binary64 0

-- ---- an evaluated point
pub kept_sums : (t : CachedTerms) → FitsSums (B.sums_of t)
unfolding B.sums_of
kept_sums t = record {
  nll = of_bits-fits binary64 _;
  first = of_bits-fits binary64 _;
  second = of_bits-fits binary64 _;
  information = record { m00 = of_bits-fits binary64 _; m01 = of_bits-fits binary64 _; m10 = of_bits-fits binary64 _; m11 = of_bits-fits binary64 _ };
}

pub point1 : (fit : Fit) (eta : Pair) (sums : Sums) → FitsPair eta → FitsSums sums → FitsPoint (B.conditional1 fit eta sums)
unfolding B.conditional1
point1 fit eta sums e f = record { eta = e.first; nll = f.nll; score = add-fits binary64 _ _; information = f.information.m00 }

pub point2 : (eta : Pair) (sums : Sums) → FitsPair eta → FitsSums sums → FitsPoint2 (B.conditional2 eta sums)
unfolding B.conditional2
point2 eta sums e f = record { eta = e; nll = f.nll; score = record { first = f.first; second = f.second }; information = f.information }

-- ---- one effect
pub record Fit1 (x : Search) : Type 0 where
  pub first : Fits x.first
  pub latest : FitsPoint x.latest
  pub left : FitsPoint x.left
  pub right : FitsPoint x.right
  pub best : FitsPoint x.best

nowhere_fits : FitsPoint R1.nowhere
nowhere_fits = record { eta = zero; nll = zero; score = zero; information = zero }

pub start1 : Fit1 R1.start
unfolding R1.start
start1 = record { first = zero; latest = nowhere_fits; left = nowhere_fits; right = nowhere_fits; best = nowhere_fits }

module _ (s : Settings) (x : Search) (c : Conditional) (f : Fit1 x) (g : FitsPoint c) where
  tried1 : (stage : Stage) (n : ℕ) → Fit1 (R1.tried stage n x c)
  unfolding R1.tried
  tried1 stage n = record { first = f.first; latest = f.latest; left = both FitsPoint _ f.left g; right = both FitsPoint _ g f.right; best = both FitsPoint _ g f.best }

  screened1 : Fit1 (R1.screened x c)
  unfolding R1.screened R1.first_score
  screened1 = record {
    first = both Fits _ g.score f.first;
    latest = g;
    left = both FitsPoint _ (both FitsPoint _ f.latest f.left) f.left;
    right = both FitsPoint _
        (both FitsPoint _ g f.right) f.right;
    best = f.best;
  }

chosen1 : (s : Settings) (y : Search) → Fit1 y → Fit1 (R1.chosen s y)
unfolding R1.chosen R1.entered
chosen1 s y k = both Fit1 _ k (both Fit1 _ k
    (both Fit1 _ k (both Fit1 _ k (both Fit1 _ (record { first = k.first; latest = k.latest; left = k.left; right = k.right; best = both FitsPoint _ k.left k.right }) k))))

advance_at1 : (st : Stage) (s : Settings) (x : Search) (c : Conditional) → Fit1 x → FitsPoint c → Fit1 (R1.advance_at st s x c)
unfolding R1.advance_at
advance_at1 Grid s x c f g = both Fit1 _ (chosen1 s _ (screened1 s x c f g)) f
advance_at1 Warm s x c f g = tried1 s x c f g _ _
advance_at1 Secant s x c f g = both Fit1 _ (tried1 s x c f g _ _) (tried1 s x c f g _ _)
advance_at1 Halving s x c f g = both Fit1 _ (tried1 s x c f g _ _) f

pub advance1 : (s : Settings) (x : Search) (c : Conditional) → Fit1 x → FitsPoint c → Fit1 (R1.advance s x c)
advance1 s x c f g = advance_at1 x.stage s x c f g

-- ---- two effects
pub record Fit2 (x : Search2) : Type 0 where
  pub current : FitsPoint2 x.current
  pub decrease : Fits x.decrease
  pub best : FitsPoint2 x.best

pair_zero : FitsPair (record { first = word 0; second = word 0 })
pair_zero = record { first = zero; second = zero }

between2 : (st : Stage2) (seed : ℕ) (c b : Conditional2) → FitsPoint2 c → FitsPoint2 b → Fit2 (R2.between st seed c b)
unfolding R2.between
between2 st seed c b f g = record { current = f; decrease = zero; best = g }

pub start2 : Fit2 R2.start
unfolding R2.start
start2 =
    let n : FitsPoint2 R2.nowhere = record { eta = pair_zero; nll = zero; score = pair_zero; information = record { m00 = zero; m01 = zero; m10 = zero; m11 = zero } } in
    between2 S2.Zero 0 _ _ n n

module _ (s : Settings2) (seed : ℕ) (c b : Conditional2) (f : FitsPoint2 c) (g : FitsPoint2 b) where
  better2 : FitsPoint2 (R2.better s seed c b)
  unfolding R2.better
  better2 = both FitsPoint2 _ f (both FitsPoint2 _ f g)

  finish2 : Fit2 (R2.finish s seed c b)
  unfolding R2.finish
  finish2 = both Fit2 _ (between2 _ _ c b f g) (both Fit2 _ (between2 _ _ c b f g) (both Fit2 _ (between2 _ _ c _ f better2) (between2 _ _ c _ f better2)))

  try2 : (round from : ℕ) (step : NewtonStep) → Fit2 (R2.try_from s seed round from c b step)
  unfolding R2.try_from R2.trying R2.decrease dot
  try2 round from step = both Fit2 _ (record { current = f; decrease = add-fits binary64 _ _; best = g }) finish2

  descend_by2 : (i : Inverse) (round from : ℕ) → Fit2 (R2.descend_by i s seed round from c b)
  unfolding R2.descend_by
  descend_by2 none round from = between2 _ _ c b f g
  descend_by2 (some m det) round from = try2 round from _

  descend2 : (round from : ℕ) → Fit2 (R2.descend s seed round from c b)
  unfolding R2.descend
  descend2 round from = descend_by2 _ round from

  round2 : (round : ℕ) → Fit2 (R2.begin_round s seed round c b)
  unfolding R2.begin_round
  round2 round = both Fit2 _ finish2 (descend2 round 0)

advance_at2 : (st : Stage2) (s : Settings2) (x : Search2) (c : Conditional2) → Fit2 x → FitsPoint2 c → Fit2 (R2.advance_at st s x c)
unfolding R2.advance_at R2.take R2.leave
advance_at2 S2.Zero s x c f g = between2 _ _ c c g g
advance_at2 S2.Start s x c f g = round2 s x.seed c x.best g f.best 0
advance_at2 S2.Trial s x c f g =
    both Fit2 _ (both Fit2 _ (round2 s x.seed c x.best g f.best _) (finish2 s x.seed c x.best g f.best))
    (both Fit2 _ (descend2 s x.seed x.current x.best f.current f.best _ _) (finish2 s x.seed x.current x.best f.current f.best))
advance_at2 S2.Found s x c f g = f
advance_at2 (S2.Halted n) s x c f g = f

pub advance2 : (s : Settings2) (x : Search2) (c : Conditional2) → Fit2 x → FitsPoint2 c → Fit2 (R2.advance s x c)
advance2 s x c f g = advance_at2 x.stage s x c f g
