-- `is_no_individual` meets its contract. Assumes nothing.
use Rattle.std.proofs.Common.{refl}
use Rattle.float64.specs.Pick.{yes_of, no_of}
use Rattle.subject.specs.Subject.{is_no_individual}
use Rattle.subject.proofs.is_no_individual.Goals as goal

pub returns-then-is_nonfinite : goal.returns-then-is_nonfinite
unfolding is_no_individual
returns-then-is_nonfinite c = yes_of _ c.is_nonfinite.ensures c.if-is_nonfinite.true refl

pub returns : goal.returns
unfolding is_no_individual
returns c = no_of _ c.is_nonfinite.ensures c.if-is_nonfinite.false refl
