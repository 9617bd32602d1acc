-- `play` meets its contract: each turn by its law. Assumes nothing.
use Rattle.focei_fit.proofs.Paths.{play_none, play_asked, play_over}
use Rattle.session.specs.Calls.{called}
use Rattle.std.proofs.Common.{arith, refl, ◌∙◌}
use Rattle.focei_fit.proofs.play.Goals as goal

pub loop-turn-init : goal.loop-turn-init
loop-turn-init c = refl

pub returns-in_default : goal.returns-in_default
returns-in_default c =
    let a = c.args in let l = c.loop-turn in play_over a.input.now a.counts.now
    a.observations.now (called l.at l.memory.cache l.memory.work l.memory.warm l.memory.results) _ c.in_default.not-Asked ∙ l.invariant

pub loop-turn-preserved : goal.loop-turn-preserved
loop-turn-preserved c =
    let a = c.args in let l = c.loop-turn in play_asked a.input.now a.counts.now
    a.observations.now (called l.at l.memory.cache l.memory.work l.memory.warm l.memory.results) _ _ (omega arith) c.in-Asked.is c.answer-at.ensures ∙ l.invariant

pub returns : goal.returns
returns c =
    let a = c.args in let l = c.loop-turn in play_none a.input.now a.counts.now
    a.observations.now (called l.at l.memory.cache l.memory.work l.memory.warm l.memory.results) _ (omega arith) ∙ l.invariant
