-- `fitted_lines` meets its contract: each turn by its law. Assumes nothing.
use Rattle.focei_text.proofs.ReportPaths.{fitted_end, fitted_step}
use Rattle.std.proofs.Common.{arith, ◌∙◌}
use native.Mathlib.Nat.{sub-zero, mul-zero, add-zero}
use Rattle.focei_text.proofs.fitted_lines.Goals as goal

pub loop-i-init : goal.loop-i-init
loop-i-init c = simp (sub-zero, mul-zero, add-zero)

pub loop-i-preserved : goal.loop-i-preserved
loop-i-preserved c =
    fitted_step _ _ _ _ _ _ c.loop-i-test.true (omega arith) c.read-population.ensures
    c.read-individual.ensures c.fitted_line.ensures ∙ c.loop-i.invariant

pub returns : goal.returns
returns c = fitted_end _ _ _ _ _ _ c.loop-i-test.false ∙ c.loop-i.invariant
