-- Where the code goes on after an evaluated point is where the rules do. Assumes nothing.
use mathlib.Core.Path.{◌≡◌, refl, ap, ◌∙◌}
use mathlib.Core.Bool.{true}
use Prim.Native.Nat.{ℕ, ◌+◌, ◌<◌}
use native.Mathlib.Omega.{arith}
use borrow.Author.Tests.{lt-ltb, ltb-true}
use lib.Dec.{ltb}
use Rattle.float64.specs.Pick.{pick_yes, pick_no, pick_through}
use Rattle.matrix.specs.Matrix.{Inverse, some, none, inverse_positive}
use Rattle.mode_2d.specs.declared.population_focei_2d.Settings2.{Settings2}
use Rattle.mode_2d.specs.declared.population_focei_2d.Conditional2.{Conditional2}
use Rattle.mode_2d.specs.declared.population_focei_2d.NewtonStep.{NewtonStep}
use Rattle.mode_2d.specs.declared.population_focei_2d.Stage2.{Stage2}
use Rattle.mode_2d.specs.declared.population_focei_2d.Stage2.TheVariants as At
use Rattle.mode_2d.specs.declared.population_focei_2d.Search2.{Search2}
use Rattle.mode_2d.specs.declared.population_focei_2d.Turn.{Turn}
use Rattle.mode_2d.specs.declared.population_focei_2d.Turn.TheVariants.{FirstStart, Rounds, Ended}
use Rattle.mode_2d.specs.declared.population_focei_2d.Onward.{Onward}
use Rattle.mode_2d.specs.declared.population_focei_2d.Onward.TheVariants.{Over}
use Rattle.mode_2d.specs.Rules.{curvature, trying, between, finish, try_from, descend_by, descend, begin_round, take, leave, advance_at}
use Rattle.mode_2d.specs.Turns.{beginning, taking, leaving, turn_at, tried, descended_by, descended, proceeded, gone_on_by, gone_on}

-- ---- through the rounds

module _ (s : Settings2) (seed : ℕ) (c best : Conditional2) where
  abbrev by : Onward → Search2
  by o = gone_on_by o s seed c best

  tries : (round from : ℕ) (step : NewtonStep) → by (tried s.eta_bound round from step) ≡ try_from s seed round from c best step
  unfolding tried try_from gone_on_by trying
  tries round from step = pick_through by _ (λ _. refl) refl

  descends : (i : Inverse) (round from : ℕ) → by (descended_by i s round from c) ≡ descend_by i s seed round from c best
  unfolding descended_by descend_by gone_on_by
  descends none round from = refl
  descends (some inverse det) round from = tries round from _

  in_round : (round from : ℕ) → from < 22 → gone_on s seed round from c best ≡ descend s seed round from c best
  unfolding proceeded descended descend
  in_round round from h =
      ap by (pick_yes (ltb from 22) _ Over (lt-ltb from 22 h)) ∙ descends (inverse_positive (curvature s.precision c.information)) round from

  at_end : (round : ℕ) → gone_on s seed round 22 c best ≡ finish s seed c best
  unfolding proceeded gone_on_by
  at_end round = ap by (pick_no (ltb 22 22) _ Over refl)

-- ---- the search after a turn

module _ (s : Settings2) (x : Search2) (c : Conditional2) where
  abbrev pub then : Turn → Search2
  then FirstStart = between At.Start 0 c c
  then (Rounds round from current) = gone_on s x.seed round from current x.best
  then Ended = x

  begins : (round : ℕ) → then (beginning s round c) ≡ begin_round s x.seed round c x.best
  unfolding beginning begin_round
  begins round =
      pick_through then _ (λ _. at_end s x.seed c x.best 0) (in_round s x.seed c x.best round 0 (omega arith))

  takes : then (taking s x c) ≡ take s x c
  unfolding taking take
  takes =
      pick_through then _ (λ _. begins (x.round + 1)) (at_end s x.seed c x.best 0)

  leaves : then (leaving x) ≡ leave s x
  unfolding leaving leave
  leaves =
      pick_through then _ (λ (e : ltb x.reduction 21 ≡ true). in_round s x.seed x.current x.best x.round (x.reduction + 1) (let h = ltb-true x.reduction 21 e in omega arith))
      (at_end s x.seed x.current x.best 0)

  -- it is the search after the point
  pub turned : (stage : Stage2) → then (turn_at stage s x c) ≡ advance_at stage s x c
  unfolding turn_at advance_at
  turned At.Zero = refl
  turned At.Start = begins 0
  turned At.Trial = pick_through then _ (λ _. takes) leaves
  turned At.Found = refl
  turned (At.Halted number) = refl
