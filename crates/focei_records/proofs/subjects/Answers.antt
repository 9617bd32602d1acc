-- `subjects` meets its contract: each turn by its law. Assumes nothing.
use Rattle.focei_records.proofs.Paths.{cohort_end, not_reserved, next_subject_lem, same_subject, stray_subject}
use Rattle.std.proofs.Common.{arith, ◌∙◌}
use native.Mathlib.Nat.{sub-zero}
use Rattle.focei_records.proofs.subjects.Goals as goal
use Rattle.focei_records.proofs.subjects.Goals.{then-subject-subjects, else-subject-subjects+else-subject-subjects-2}

pub loop-i-init : goal.loop-i-init
loop-i-init c = (simp sub-zero, omega arith)

pub returns-then-reserved_at-ne0 : goal.returns-then-reserved_at-ne0
returns-then-reserved_at-ne0 c = not_reserved _ _ _ _ c.loop-i-test.true c.reserved_at.ensures c.if-reserved_at-ne0.true ∙ c.loop-i.invariant.0

pub returns-then-subject-subjects-2 : goal.returns-then-subject-subjects-2
returns-then-subject-subjects-2 c =
    stray_subject _ _ _ _ c.loop-i-test.true c.reserved_at.ensures c.if-reserved_at-ne0.false
    c.subject_at-subject.ensures.0 c.if-subject-subjects.false c.if-subject-subjects-2.true ∙ c.loop-i.invariant.0

pub loop-i-preserved : goal.loop-i-preserved
loop-i-preserved c = (
  elim c.if-subject-subjects.branch [
    | then-subject-subjects w ↦
        next_subject_lem _ _ _ _ c.loop-i-test.true c.reserved_at.ensures c.if-reserved_at-ne0.false c.subject_at-subject.ensures.0
        w.if-subject-subjects.true w.subjects-is
    | else-subject-subjects+else-subject-subjects-2 w ↦
        same_subject _ _ _ _ c.loop-i-test.true c.reserved_at.ensures c.if-reserved_at-ne0.false c.subject_at-subject.ensures.0
        w.if-subject-subjects.false w.if-subject-subjects-2.false w.subjects-is
  ] ∙ c.loop-i.invariant.0,
  elim c.if-subject-subjects.branch [ then-subject-subjects w ↦ omega arith | else-subject-subjects+else-subject-subjects-2 w ↦ omega arith ],
)

pub returns : goal.returns
returns c = cohort_end _ _ _ _ c.loop-i-test.false ∙ c.loop-i.invariant.0
