-- `hexadecimal` meets its contract: each turn by its law. Assumes nothing.
use Rattle.std.proofs.Common.{arith, refl, ◌∙◌}
use Rattle.focei_text.proofs.Paths.{hex_end, hex_step}
use Rattle.focei_text.specs.Writing.{hexadecimal}
use Rattle.focei_text.proofs.hexadecimal.Goals as goal

pub loop-turn-init : goal.loop-turn-init
loop-turn-init c = refl

pub loop-turn-preserved : goal.loop-turn-preserved
loop-turn-preserved c = hex_step _ _ _ _ (omega arith) c.glyph.ensures c.put.ensures ∙ c.loop-turn.invariant

pub returns : goal.returns
unfolding hexadecimal
returns c = hex_end _ _ _ (omega arith) ∙ c.loop-turn.invariant
