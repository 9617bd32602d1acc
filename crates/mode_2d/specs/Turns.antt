-- How the code goes on after an evaluated point: it decides first where, and then goes on through a start's rounds in one place. These
-- definitions are between its functions; what is said of a search cites Rules alone.
use Rattle.std.specs.Prelude.{ℕ, ◌+◌, ◌-◌, ltb, Float}
use Rattle.std.specs.Float.Ieee.{le}
use Rattle.float64.specs.Arithmetic.{word}
use Rattle.float64.specs.Pick.{pick}
use Rattle.matrix.specs.Matrix.{Inverse, some, none, inverse_positive}
use Rattle.mode_2d.specs.declared.population_focei_2d.Settings2.{Settings2}
use Rattle.mode_2d.specs.declared.population_focei_2d.Conditional2.{Conditional2}
use Rattle.mode_2d.specs.declared.population_focei_2d.NewtonStep.{NewtonStep}
use Rattle.mode_2d.specs.declared.population_focei_2d.Stage2.{Stage2}
use Rattle.mode_2d.specs.declared.population_focei_2d.Stage2.TheVariants as At
use Rattle.mode_2d.specs.declared.population_focei_2d.Search2.{Search2}
use Rattle.mode_2d.specs.declared.population_focei_2d.Turn.{Turn}
use Rattle.mode_2d.specs.declared.population_focei_2d.Turn.TheVariants.{FirstStart, Rounds, Ended}
use Rattle.mode_2d.specs.declared.population_focei_2d.Onward.{Onward}
use Rattle.mode_2d.specs.declared.population_focei_2d.Onward.TheVariants.{Try, Over, NoInverse}
use Rattle.mode_2d.specs.Rules.{norm, curvature, step_by, trial_point, decrease, next_reduction, is_taken, between, finish}

-- ---- where

abbrev pub over : Conditional2 → Turn
over c = Rounds 0 22 c

unfoldable pub beginning : Settings2 → ℕ → Conditional2 → Turn
beginning s round c = pick (le (norm s c) (word 0x3ee4_f8b5_88e3_68f1)) (over c) (Rounds round 0 c)

unfoldable pub taking : Settings2 → Search2 → Conditional2 → Turn
taking s x c = pick (ltb x.round 47) (beginning s (x.round + 1) c) (over c)

unfoldable pub leaving : Search2 → Turn
leaving x = pick (ltb x.reduction 21) (Rounds x.round (x.reduction + 1) x.current) (over x.current)

unfoldable pub turn_at : Stage2 → Settings2 → Search2 → Conditional2 → Turn
turn_at At.Zero s x c = FirstStart
turn_at At.Start s x c = beginning s 0 c
turn_at At.Trial s x c = pick (is_taken s x c) (taking s x c) (leaving x)
turn_at At.Found s x c = Ended
turn_at (At.Halted number) s x c = Ended

abbrev pub turn_after : Settings2 → Search2 → Conditional2 → Turn
turn_after s x c = turn_at x.stage s x c

-- ---- through the rounds

unfoldable pub tried : Float → ℕ → ℕ → NewtonStep → Onward
tried eta_bound round from step =
    let reduction = next_reduction eta_bound step (22 - from) from in
    let trial = trial_point eta_bound step reduction in
    pick (ltb reduction 22) (Try round reduction trial (decrease step trial)) Over

unfoldable pub descended_by : Inverse → Settings2 → ℕ → ℕ → Conditional2 → Onward
descended_by none s round from c = NoInverse
descended_by (some inverse det) s round from c = tried s.eta_bound round from (step_by s c inverse)

unfoldable pub descended : Settings2 → ℕ → ℕ → Conditional2 → Onward
descended s round from c = descended_by (inverse_positive (curvature s.precision c.information)) s round from c

unfoldable pub proceeded : Settings2 → ℕ → ℕ → Conditional2 → Onward
proceeded s round from c = pick (ltb from 22) (descended s round from c) Over

-- the search afterwards
unfoldable pub gone_on_by : Onward → Settings2 → ℕ → Conditional2 → Conditional2 → Search2
gone_on_by (Try round reduction trial fall) s seed c best =
    record { stage = At.Trial; seed = seed; round = round; reduction = reduction; current = c; trial = trial; decrease = fall; best = best }
gone_on_by Over s seed c best = finish s seed c best
gone_on_by NoInverse s seed c best = between (At.Halted 16) seed c best

abbrev pub gone_on : Settings2 → ℕ → ℕ → ℕ → Conditional2 → Conditional2 → Search2
gone_on s seed round from c best = gone_on_by (proceeded s round from c) s seed c best
