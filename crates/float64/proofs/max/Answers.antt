-- `float64::max` meets its contract. Assumes nothing.
use Rattle.std.proofs.Common.{refl}
use Rattle.float64.specs.Float64.{max}
use Rattle.float64.specs.Pick.{yes, no}
use Rattle.float64.proofs.Laws.{differs_nan, same_number}
use Rattle.float64.proofs.max.Goals as goal

pub returns-then-a : goal.returns-then-a
unfolding max
returns-then-a c = yes _ (differs_nan _ c.if-a.true) refl

pub returns-then-a-b : goal.returns-then-a-b
unfolding max
returns-then-a-b c = no _ (same_number _ c.if-a.false) (yes _ c.if-a-b.true refl)

pub returns : goal.returns
unfolding max
returns c = no _ (same_number _ c.if-a.false) (no _ c.if-a-b.false refl)
