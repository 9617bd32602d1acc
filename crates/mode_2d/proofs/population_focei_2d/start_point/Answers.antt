-- `population_focei_2d::start_point` meets its contract: the last start is that of no number below 5. Assumes nothing.
use borrow.Author.Tests.{ne_eqb}
use Rattle.std.proofs.Common.{◌≡◌, ◌<◌, ◌≤◌, ℕ, false, eqb, refl, arith}
use Rattle.float64.specs.Pick.{no}
use Rattle.mode_2d.specs.Rules.{start_point}
use Rattle.mode_2d.proofs.population_focei_2d.start_point.Goals as goal

other : (n k : ℕ) → 5 ≤ n → k < 5 → eqb n k ≡ false
other n k h l = ne_eqb n k (omega arith)

pub returns-in_default : goal.returns-in_default
unfolding start_point
returns-in_default c =
    let h : 5 ≤ c.args.seed = omega arith in
    no _ (other _ 0 h (omega arith))
    (no _ (other _ 1 h (omega arith))
    (no _ (other _ 2 h (omega arith))
    (no _ (other _ 3 h (omega arith))
    (no _ (other _ 4 h (omega arith)) refl))))
