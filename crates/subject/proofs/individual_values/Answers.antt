-- `individual_values` meets its contract: each exit by its law. Assumes nothing.
use Rattle.subject.proofs.Paths.{no_first, one_value, no_second, two_values}
use Rattle.subject.proofs.individual_values.Goals as goal

pub returns-then-is_no_individual : goal.returns-then-is_no_individual
returns-then-is_no_individual c = no_first _ _ _ c.individual-first.ensures c.is_no_individual.ensures c.if-is_no_individual.true

pub returns-then-effects-ne2 : goal.returns-then-effects-ne2
returns-then-effects-ne2 c = one_value _ _ _ c.individual-first.ensures c.is_no_individual.ensures c.if-is_no_individual.false c.if-effects-ne2.true

pub returns-then-is_no_individual-2 : goal.returns-then-is_no_individual-2
returns-then-is_no_individual-2 c =
    no_second _ _ _ c.individual-first.ensures c.is_no_individual.ensures c.if-is_no_individual.false c.if-effects-ne2.false
    c.individual-second.ensures c.is_no_individual-2.ensures c.if-is_no_individual-2.true

pub returns : goal.returns
returns c =
    two_values _ _ _ c.individual-first.ensures c.is_no_individual.ensures c.if-is_no_individual.false c.if-effects-ne2.false
    c.individual-second.ensures c.is_no_individual-2.ensures c.if-is_no_individual-2.false
