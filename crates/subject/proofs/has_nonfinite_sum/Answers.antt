-- `has_nonfinite_sum` meets its contract. Assumes nothing.
use Rattle.std.proofs.Common.{refl}
use Rattle.float64.specs.Pick.{pass, yes_of, no_of}
use Rattle.subject.specs.Subject.{has_nonfinite_sum}
use Rattle.subject.proofs.has_nonfinite_sum.Goals as goal

pub returns-then-is_nonfinite : goal.returns-then-is_nonfinite
unfolding has_nonfinite_sum
returns-then-is_nonfinite c = yes_of _ c.is_nonfinite.ensures c.if-is_nonfinite.true refl

pub returns-then-is_nonfinite-2 : goal.returns-then-is_nonfinite-2
unfolding has_nonfinite_sum
returns-then-is_nonfinite-2 c = pass _ (yes_of _ c.is_nonfinite-2.ensures c.if-is_nonfinite-2.true refl)

pub returns-then-is_nonfinite-3 : goal.returns-then-is_nonfinite-3
unfolding has_nonfinite_sum
returns-then-is_nonfinite-3 c = pass _ (pass _ (yes_of _ c.is_nonfinite-3.ensures c.if-is_nonfinite-3.true refl))

pub returns : goal.returns
unfolding has_nonfinite_sum
returns c =
    no_of _ c.is_nonfinite.ensures c.if-is_nonfinite.false
    (no_of _ c.is_nonfinite-2.ensures c.if-is_nonfinite-2.false
    (no_of _ c.is_nonfinite-3.ensures c.if-is_nonfinite-3.false
    (rw (c.has_nonfinite_entry.ensures, c.array_of.ensures))))
