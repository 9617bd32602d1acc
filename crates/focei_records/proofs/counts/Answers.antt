-- `counts` meets its contract: each turn by its law. Assumes nothing.
use Rattle.focei_records.proofs.Paths.{counts_end, counts_step}
use native.Mathlib.Nat.{sub-zero}
use Rattle.words.specs.Page.{with_items}
use Rattle.focei_records.specs.Records.{counts}
use Rattle.std.proofs.Common.{rules, ◌∙◌}
use Rattle.focei_records.proofs.counts.Goals as goal

pub loop-subject-init : goal.loop-subject-init
loop-subject-init c = simp sub-zero

pub loop-subject-preserved : goal.loop-subject-preserved
loop-subject-preserved c = counts_step _ _ _ _ c.loop-subject-test.true c.count.ensures c.put.ensures ∙ c.loop-subject.invariant

pub returns : goal.returns
unfolding with_items counts
returns c = let e = counts_end _ _ _ _ c.loop-subject-test.false ∙ c.loop-subject.invariant in search rules
