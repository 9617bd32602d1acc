-- `walk` meets its contract: each turn and each exit by its law. Assumes nothing.
use Rattle.std.proofs.Common.{refl, ◌+◌, ◌-◌, ◌∙◌, arith}
use Rattle.cache.proofs.Paths.{walk_dead, walk_spent, walk_hit, walk_on}
use Rattle.cache.proofs.walk.Goals as goal

pub returns-then-entry-oldest : goal.returns-then-entry-oldest
returns-then-entry-oldest c = walk_dead _ _ _ _ _ _ _ c.if-entry-oldest.true ∙ c.loop-passed.invariant

pub returns-then-is_at : goal.returns-then-is_at
returns-then-is_at c = rw c.modulo.ensures (walk_hit _ _ _ _ _ _ _ (c.args.most - (c.loop-passed.passed + 1)) (omega arith) c.if-entry-oldest.false c.is_at.ensures c.if-is_at.true ∙ c.loop-passed.invariant)

pub loop-passed-preserved : goal.loop-passed-preserved
loop-passed-preserved c =
    walk_on _ _ _ _ _ _ _ _ (omega arith) c.if-entry-oldest.false c.is_at.ensures c.if-is_at.false (rw c.modulo-in-loop-passed.ensures at c.read.ensures) refl
    ∙ c.loop-passed.invariant

pub returns : goal.returns
returns c = walk_spent _ _ _ _ _ _ _ (omega arith) ∙ c.loop-passed.invariant
