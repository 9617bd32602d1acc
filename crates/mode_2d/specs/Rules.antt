-- The rules of the two-effect search, `mode` and `mode_from_seed` of population_focei_2d.rs: which point it asks for, and what an
-- evaluated point makes of it. Matrices and their operations are matrix's.
use Rattle.std.specs.Prelude.{Bool, true, false, List, ℕ, zero, suc, ◌+◌, ◌-◌, ◌*◌, ◌^◌, ltb, eqb, Float}
use Rattle.std.specs.Float.Ieee.{lt, le, eq, neg}
use Rattle.float64.specs.Arithmetic.{◌+ᶠ◌, ◌-ᶠ◌, ◌*ᶠ◌, word, half}
use Rattle.float64.specs.Float64.{abs, max, clamp}
use Rattle.float64.specs.Pick.{pick}
use Rattle.matrix.specs.Matrix.{pair, at, array_of, sum, product, dot, Inverse, some, none, inverse_positive}
use Rattle.matrix.specs.declared.Matrix.{Matrix}
use Rattle.matrix.specs.declared.Pair.{Pair}
use Rattle.mode_2d.specs.declared.population_focei_2d.Settings2.{Settings2}
use Rattle.mode_2d.specs.declared.population_focei_2d.Conditional2.{Conditional2}
use Rattle.mode_2d.specs.declared.population_focei_2d.NewtonStep.{NewtonStep}
use Rattle.mode_2d.specs.declared.population_focei_2d.Stage2.{Stage2}
use Rattle.mode_2d.specs.declared.population_focei_2d.Stage2.TheVariants.{Zero, Start, Trial, Found, Halted}
use Rattle.mode_2d.specs.declared.population_focei_2d.Search2.{Search2}
use Rattle.mode.specs.declared.Request.{Request}
use Rattle.mode.specs.declared.Request.TheVariants.{Point, Mode, Refused}

abbrev pub nought : Float
nought = word 0

-- ---- pairs
abbrev pub of : Float → Float → Pair
of x y = record { first = x; second = y }

abbrev pub vector : Pair → List Float
vector p = pair p.first p.second

abbrev pub pair_of : List Float → Pair
pair_of v = of (at v 0) (at v 1)

unfoldable pub max_abs : Pair → Float
max_abs p = max (abs p.first) (abs p.second)

-- floats equal, so that -0 is 0
unfoldable pub is_same : Pair → Pair → Bool
is_same a b = pick (eq a.first b.first) (eq a.second b.second) false

-- ---- a point with the prior
unfoldable pub prior_score : Settings2 → Pair → List Float
prior_score s eta = product (array_of s.precision) (vector eta)

-- document 01's joint: the penalised negative log likelihood
unfoldable pub joint : Settings2 → Conditional2 → Float
joint s c = c.nll +ᶠ half *ᶠ dot (vector c.eta) (prior_score s c.eta)

unfoldable pub penalised_score : Settings2 → Conditional2 → Pair
penalised_score s c = of (c.score.first +ᶠ at (prior_score s c.eta) 0) (c.score.second +ᶠ at (prior_score s c.eta) 1)

-- document 01's norm: the larger absolute penalised score
unfoldable pub norm : Settings2 → Conditional2 → Float
norm s c = max_abs (penalised_score s c)

unfoldable pub curvature : Matrix → Matrix → List (List Float)
curvature precision information = sum (array_of precision) (array_of information)

-- ---- a round: the Newton step from c, and its trials
unfoldable pub step_by : Settings2 → Conditional2 → List (List Float) → NewtonStep
step_by s c inverse =
    record { eta = c.eta; score = penalised_score s c; direction = pair_of (product inverse (vector (penalised_score s c))) }

-- 2 to the minus reduction: the float of that exponent
unfoldable pub scale : ℕ → Float
scale reduction = word ((1023 - reduction) * 2 ^ 52)

unfoldable pub reduced : Float → Float → Float → Float → Float
reduced eta_bound eta scale direction = clamp (eta -ᶠ scale *ᶠ direction) (neg eta_bound) eta_bound

unfoldable pub trial_point : Float → NewtonStep → ℕ → Pair
trial_point eta_bound step reduction =
    of (reduced eta_bound step.eta.first (scale reduction) step.direction.first)
    (reduced eta_bound step.eta.second (scale reduction) step.direction.second)

-- document 01's foreseen fall
unfoldable pub decrease : NewtonStep → Pair → Float
decrease step trial = dot (vector step.score) (pair (step.eta.first -ᶠ trial.first) (step.eta.second -ᶠ trial.second))

-- the trial is the current point, or its foreseen fall is at most 0
unfoldable pub is_passed_over : Float → NewtonStep → ℕ → Bool
is_passed_over eta_bound step reduction =
    pick (is_same (trial_point eta_bound step reduction) step.eta) true
    (le (decrease step (trial_point eta_bound step reduction)) nought)

-- the first of n reductions from `from` on that is not passed over; from + n where each is
unfoldable pub next_reduction : Float → NewtonStep → ℕ → ℕ → ℕ
next_reduction eta_bound step zero from = from
next_reduction eta_bound step (suc n) from = pick (is_passed_over eta_bound step from) (next_reduction eta_bound step n (from + 1)) from

-- joint is at most the current one less 1e-4 of the foreseen fall
unfoldable pub is_taken : Settings2 → Search2 → Conditional2 → Bool
is_taken s x c = le (joint s c) (joint s x.current -ᶠ word 0x3f1a_36e2_eb1c_432d *ᶠ x.decrease)

-- ---- the six starts: warm, zero, (h, 0), (-h, 0), (0, h), (0, -h), h = L/2
unfoldable pub start_point : Settings2 → ℕ → Pair
start_point s seed =
    let h = half *ᶠ s.eta_bound in
    pick (eqb seed 0) s.warm
    (pick (eqb seed 1) (of nought nought)
    (pick (eqb seed 2) (of h nought)
    (pick (eqb seed 3) (of (neg h) nought)
    (pick (eqb seed 4) (of nought h)
    (of nought (neg h))))))

-- ---- candidates
-- 13: norm above 1e-3, or an eta at L - 1e-6 or beyond
unfoldable pub is_unresolved : Settings2 → Conditional2 → Bool
is_unresolved s c =
    let edge = s.eta_bound -ᶠ word 0x3eb0_c6f7_a0b5_ed8d in
    pick (lt (word 0x3f50_624d_d2f1_a9fc) (norm s c)) true
    (pick (le edge (abs c.eta.first)) true
    (le edge (abs c.eta.second)))

-- 14: farther than 1e-3 from the best of the starts before
unfoldable pub is_far : ℕ → Conditional2 → Conditional2 → Bool
is_far seed c best =
    pick (eqb seed 0) false
    (lt (word 0x3f50_624d_d2f1_a9fc) (max_abs (of (c.eta.first -ᶠ best.eta.first) (c.eta.second -ᶠ best.eta.second))))

-- the earlier at a tie
unfoldable pub better : Settings2 → ℕ → Conditional2 → Conditional2 → Conditional2
better s seed c best = pick (eqb seed 0) c (pick (lt (joint s c) (joint s best)) c best)

-- ---- searches
-- outside of any round
unfoldable pub between : Stage2 → ℕ → Conditional2 → Conditional2 → Search2
between stage seed current best =
    record {
      stage = stage;
      seed = seed;
      round = 0;
      reduction = 0;
      current = current;
      trial = of nought nought;
      decrease = nought;
      best = best;
    }

-- a trial is awaited
unfoldable pub trying : ℕ → ℕ → ℕ → Conditional2 → Conditional2 → NewtonStep → Pair → Search2
trying seed round reduction current best step trial =
    record {
      stage = Trial;
      seed = seed;
      round = round;
      reduction = reduction;
      current = current;
      trial = trial;
      decrease = decrease step trial;
      best = best;
    }

-- the rounds of a start are over at c, its candidate
unfoldable pub finish : Settings2 → ℕ → Conditional2 → Conditional2 → Search2
finish s seed c best =
    pick (is_unresolved s c) (between (Halted 13) seed c best)
    (pick (is_far seed c best) (between (Halted 14) seed c best)
    (pick (ltb seed 5) (between Start (seed + 1) c (better s seed c best))
    (between Found 6 c (better s seed c best))))

-- the trials along a step, from a reduction on
unfoldable pub try_from : Settings2 → ℕ → ℕ → ℕ → Conditional2 → Conditional2 → NewtonStep → Search2
try_from s seed round from c best step =
    let reduction = next_reduction s.eta_bound step (22 - from) from in
    pick (ltb reduction 22) (trying seed round reduction c best step (trial_point s.eta_bound step reduction))
    (finish s seed c best)

-- without an inverse 16, there and then
unfoldable pub descend_by : Inverse → Settings2 → ℕ → ℕ → ℕ → Conditional2 → Conditional2 → Search2
descend_by none s seed round from c best = between (Halted 16) seed c best
descend_by (some inverse det) s seed round from c best = try_from s seed round from c best (step_by s c inverse)

unfoldable pub descend : Settings2 → ℕ → ℕ → ℕ → Conditional2 → Conditional2 → Search2
descend s seed round from c best = descend_by (inverse_positive (curvature s.precision c.information)) s seed round from c best

-- the head of a round: the rounds stop at norm ≤ 1e-5
unfoldable pub begin_round : Settings2 → ℕ → ℕ → Conditional2 → Conditional2 → Search2
begin_round s seed round c best =
    pick (le (norm s c) (word 0x3ee4_f8b5_88e3_68f1)) (finish s seed c best) (descend s seed round 0 c best)

-- a trial is taken: the next of 48 rounds
unfoldable pub take : Settings2 → Search2 → Conditional2 → Search2
take s x c = pick (ltb x.round 47) (begin_round s x.seed (x.round + 1) c x.best) (finish s x.seed c x.best)

-- it is not: the next of 22 reductions
unfoldable pub leave : Settings2 → Search2 → Search2
leave s x =
    pick (ltb x.reduction 21) (descend s x.seed x.round (x.reduction + 1) x.current x.best)
    (finish s x.seed x.current x.best)

-- ---- what is asked
unfoldable pub request_at : Stage2 → Settings2 → Search2 → Request Pair
request_at Zero s x = Point (of nought nought)
request_at Start s x = Point (start_point s x.seed)
request_at Trial s x = Point x.trial
request_at Found s x = Mode
request_at (Halted number) s x = Refused number

abbrev pub request : Settings2 → Search2 → Request Pair
request s x = request_at x.stage s x

-- ---- what an evaluated point makes of the search. One that has ended stays as it is.
unfoldable pub advance_at : Stage2 → Settings2 → Search2 → Conditional2 → Search2
advance_at Zero s x c = between Start 0 c c
advance_at Start s x c = begin_round s x.seed 0 c x.best
advance_at Trial s x c = pick (is_taken s x c) (take s x c) (leave s x)
advance_at Found s x c = x
advance_at (Halted number) s x c = x

abbrev pub advance : Settings2 → Search2 → Conditional2 → Search2
advance s x c = advance_at x.stage s x c

-- ---- a search that has asked nothing
abbrev pub nowhere : Conditional2
nowhere = record {
  eta = of nought nought;
  nll = nought;
  score = of nought nought;
  information = record { m00 = nought; m01 = nought; m10 = nought; m11 = nought };
}

unfoldable pub start : Search2
start = between Zero 0 nowhere nowhere
