-- `float64::clamp` meets its contract. Assumes nothing.
use Rattle.std.proofs.Common.{refl}
use Rattle.float64.specs.Float64.{clamp}
use Rattle.float64.specs.Pick.{yes, no}
use Rattle.float64.proofs.clamp.Goals as goal

pub returns-then-x-low : goal.returns-then-x-low
unfolding clamp
returns-then-x-low c = yes _ c.if-x-low.true refl

pub returns-then-high-x : goal.returns-then-high-x
unfolding clamp
returns-then-high-x c = no _ c.if-x-low.false (yes _ c.if-high-x.true refl)

pub returns : goal.returns
unfolding clamp
returns c = no _ c.if-x-low.false (no _ c.if-high-x.false refl)
