-- `all_fitted` meets its contract: each turn by its law. Assumes nothing.
use Rattle.std.proofs.Common.{rules, arith, ◌∙◌}
use Rattle.focei_text.proofs.ReportPaths.{all_end, all_step, few_rows}
use native.Mathlib.Nat.{sub-zero}
use Rattle.focei_text.proofs.all_fitted.Goals as goal

pub loop-subject-init : goal.loop-subject-init
loop-subject-init c = (simp sub-zero, omega arith)

pub fitted_lines-requires : goal.fitted_lines-requires
fitted_lines-requires c = let low = few_rows _ _ c.rows_of-rows.ensures in (low, omega arith)

pub overflow_mul-word-in-loop-subject : goal.overflow_mul-word-in-loop-subject
overflow_mul-word-in-loop-subject c = let low = few_rows _ _ c.rows_of-rows.ensures in search rules

pub overflow_add-word : goal.overflow_add-word
overflow_add-word c = let low = few_rows _ _ c.rows_of-rows.ensures in search rules

pub loop-subject-preserved : goal.loop-subject-preserved
loop-subject-preserved c =
    let low = few_rows _ _ c.rows_of-rows.ensures in (
      all_step _ _ _ _ _ _ c.loop-subject-test.true
          c.rows_of-rows.ensures c.fitted_lines.ensures ∙ c.loop-subject.invariant.0,
      omega arith,
    )

pub returns : goal.returns
returns c = all_end _ _ _ _ _ _ c.loop-subject-test.false ∙ c.loop-subject.invariant.0
