-- `play` meets its contract: each turn by its law. Assumes nothing.
use Rattle.focei_fit.specs.Output as Output
use Rattle.session.specs.Calls.{called}
use Prim.Native.Nat.{◌-◌}
use Rattle.std.proofs.Common.{◌≡◌}
use Rattle.focei_fit.proofs.play.Given as goal

abbrev pub invariant-loop-turn : goal.invariant-loop-turn
invariant-loop-turn l = Output.play l.input l.counts l.observations (10000 - l._turn) (called l.at l.memory.cache l.memory.work l.memory.warm l.memory.results)
    ≡ Output.play l.input l.counts l.observations Output.most_evaluations (called l.initial.at l.initial.memory.cache l.initial.memory.work l.initial.memory.warm l.initial.memory.results)
