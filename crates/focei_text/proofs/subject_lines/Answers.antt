-- `subject_lines` meets its contract: each turn by its law. Assumes nothing.
use Rattle.focei_text.proofs.ReportPaths.{subjects_end, subjects_step}
use native.Mathlib.Nat.{sub-zero}
use Rattle.std.proofs.Common.{◌∙◌}
use Rattle.focei_text.proofs.subject_lines.Goals as goal

pub loop-subject-init : goal.loop-subject-init
loop-subject-init c = simp sub-zero

pub loop-subject-preserved : goal.loop-subject-preserved
loop-subject-preserved c = subjects_step _ _ _ _ c.loop-subject-test.true c.read.ensures c.subject_line.ensures ∙ c.loop-subject.invariant

pub returns : goal.returns
returns c = subjects_end _ _ _ _ c.loop-subject-test.false ∙ c.loop-subject.invariant
