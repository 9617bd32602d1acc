-- `count` meets its contract: each turn by its law. Assumes nothing.
use Rattle.focei_records.proofs.Paths.{count_end, count_hit, count_miss}
use Rattle.std.proofs.Common.{arith, ◌∙◌}
use native.Mathlib.Nat.{sub-zero, zero-add}
use Rattle.focei_records.proofs.count.Goals as goal
use Rattle.focei_records.proofs.count.Goals.{then-subject_at-subject, else-subject_at-subject}

pub loop-i-init : goal.loop-i-init
loop-i-init c = (simp (sub-zero, zero-add), omega arith)

pub loop-i-preserved : goal.loop-i-preserved
loop-i-preserved c = (
  elim c.if-subject_at-subject.branch [
    | then-subject_at-subject w ↦ count_hit _ _ _ _ _ c.loop-i-test.true c.subject_at.ensures.0 w.if-subject_at-subject.true w.total-is
    | else-subject_at-subject w ↦ count_miss _ _ _ _ _ c.loop-i-test.true c.subject_at.ensures.0 w.if-subject_at-subject.false w.total-is
  ] ∙ c.loop-i.invariant.0,
  elim c.if-subject_at-subject.branch [ then-subject_at-subject w ↦ omega arith | else-subject_at-subject w ↦ omega arith ],
)

pub returns : goal.returns
returns c = count_end _ _ _ _ _ c.loop-i-test.false ∙ c.loop-i.invariant.0
