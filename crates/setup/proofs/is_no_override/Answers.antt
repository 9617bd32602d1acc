-- `is_no_override` meets its contract: each exit by its law. Assumes nothing.
use Rattle.setup.proofs.Paths.{own, two_effects, infinite, finite}
use Rattle.setup.proofs.is_no_override.Goals as goal

pub returns-then-effects-eq2 : goal.returns-then-effects-eq2
returns-then-effects-eq2 c = two_effects _ _ c.in-Some.is c.if-effects-eq2.true

pub returns-then-is_nonfinite : goal.returns-then-is_nonfinite
returns-then-is_nonfinite c = infinite _ _ c.in-Some.is c.if-effects-eq2.false c.is_nonfinite.ensures c.if-is_nonfinite.true

pub returns-in_default : goal.returns-in_default
returns-in_default c = own _ _ c.in_default.is

pub returns : goal.returns
returns c = finite _ _ c.in-Some.is c.if-effects-eq2.false c.is_nonfinite.ensures c.if-is_nonfinite.false
