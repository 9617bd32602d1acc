-- `observations` meets its contract: each turn by its law. Assumes nothing.
use Rattle.focei_records.proofs.Paths.{observations_end, observations_step}
use native.Mathlib.Nat.{sub-zero}
use Rattle.words.specs.Page.{with_items}
use Rattle.focei_records.specs.Records.{observations}
use Rattle.std.proofs.Common.{rules, ◌∙◌}
use Rattle.focei_records.proofs.observations.Goals as goal

pub loop-i-init : goal.loop-i-init
loop-i-init c = simp sub-zero

pub loop-i-preserved : goal.loop-i-preserved
loop-i-preserved c = observations_step _ _ _ _ c.loop-i-test.true c.observation.ensures ∙ c.loop-i.invariant

pub returns : goal.returns
unfolding with_items observations
returns c = let e = observations_end _ _ _ _ c.loop-i-test.false ∙ c.loop-i.invariant in search rules
