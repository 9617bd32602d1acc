-- `float64::is_nonfinite` meets its contract. Assumes nothing.
use Rattle.float64.proofs.is_nonfinite.Goals as goal

pub returns-then-is_finite : goal.returns-then-is_finite
returns-then-is_finite c = simp (← c.is_finite.ensures, c.if-is_finite.true)

pub returns : goal.returns
returns c = simp (← c.is_finite.ensures, c.if-is_finite.false)
