-- The ways through the loop of `next_reduction` and of `Search2::advance`: one law for each, over plain variables. Assumes nothing.
use Rattle.std.specs.Prelude.{Some, None}
use mathlib.Core.Path.{◌≡◌, refl, sym, ap, subst, ◌∙◌}
use mathlib.Core.Bool.{Bool, true, false}
use Prim.Native.Nat.{ℕ, suc, ◌+◌, ◌-◌, ◌<◌, ◌≤◌}
use native.Mathlib.Omega.{arith}
use borrow.Author.Tests.{lt-ltb, le-ltb}
use lib.Dec.{ltb}
use lib.Ieee.{Float}
use Rattle.float64.specs.Pick.{pick, yes, no, yes_of, no_of}
use Rattle.mode_2d.specs.declared.population_focei_2d.Settings2.{Settings2}
use Rattle.mode_2d.specs.declared.population_focei_2d.Conditional2.{Conditional2}
use Rattle.mode_2d.specs.declared.population_focei_2d.NewtonStep.{NewtonStep}
use Rattle.mode_2d.specs.declared.population_focei_2d.Search2.{Search2}
use Rattle.mode_2d.specs.declared.population_focei_2d.Turn.{Turn}
use Rattle.mode_2d.specs.Rules.{is_passed_over, next_reduction, advance}
use Rattle.mode_2d.specs.Turns.{turn_after}
use Rattle.mode_2d.proofs.Turns.{then, turned}

-- ---- the loop's turn at a reduction; b is what `is_passed_over` answered, a the loop's answer
one_more : (reduction : ℕ) → reduction < 22 → suc (22 - (reduction + 1)) ≡ 22 - reduction
one_more reduction h = omega arith

no_more : (reduction : ℕ) → 22 ≤ reduction → 0 ≡ 22 - reduction
no_more reduction h = omega arith

-- what the loop answers from a reduction on
abbrev pub next_from : Float → NewtonStep → ℕ → ℕ
next_from eta-bound step reduction = next_reduction eta-bound step (22 - reduction) reduction

module _ (eta-bound : Float) (step : NewtonStep) (reduction : ℕ) where
  turn : reduction < 22 → pick (is_passed_over eta-bound step reduction) (next_from eta-bound step (reduction + 1)) reduction ≡ next_from eta-bound step reduction
  unfolding next_reduction
  turn h = ap (λ (n : ℕ). next_reduction eta-bound step n reduction) (one_more reduction h)

  pub passed_over : {b : Bool} {a : ℕ} → reduction < 22 → b ≡ is_passed_over eta-bound step reduction → b ≡ true → next_from eta-bound step reduction ≡ a → next_from eta-bound step (reduction + 1) ≡ a
  passed_over h e t q = yes_of _ e t refl ∙ turn h ∙ q

  pub stops_here : {b : Bool} {a : ℕ} → reduction < 22 → b ≡ is_passed_over eta-bound step reduction → b ≡ false → next_from eta-bound step reduction ≡ a → reduction ≡ a
  stops_here h e t q = no_of _ e t refl ∙ turn h ∙ q

  pub all_passed : {a : ℕ} → 22 ≤ reduction → next_from eta-bound step reduction ≡ a → reduction ≡ a
  unfolding next_reduction
  all_passed h q = ap (λ (n : ℕ). next_reduction eta-bound step n reduction) (no_more reduction h) ∙ q

-- what the loop answers, where its answer is the reduction a
pub found_lem : {reduction a : ℕ} → reduction < 22 → reduction ≡ a → Some reduction ≡ pick (ltb a 22) (Some a) None
found_lem {reduction} h e = subst (λ (a : ℕ). Some reduction ≡ pick (ltb a 22) (Some a) None) e (yes _ (lt-ltb _ _ h) refl)

pub none_lem : {reduction a : ℕ} → 22 ≤ reduction → reduction ≡ a → None ≡ pick (ltb a 22) (Some a) None
none_lem h e = subst (λ (a : ℕ). None ≡ pick (ltb a 22) (Some a) None) e (no _ (le-ltb _ _ h) refl)

-- ---- what an evaluated point makes of the search: z is the search afterwards, t what `turn_after` answered
module _ (s : Settings2) (x : Search2) (c : Conditional2) where
  pub advanced : {t variant : Turn} {z : Search2} → t ≡ turn_after s x c → t ≡ variant → z ≡ then s x c variant → z ≡ advance s x c
  advanced e v q = q ∙ ap (then s x c) (sym v ∙ e) ∙ turned s x c x.stage
