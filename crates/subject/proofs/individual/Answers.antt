-- `individual` meets its contract. Assumes nothing.
use Rattle.subject.specs.Subject.{individual}
use Rattle.subject.proofs.individual.Goals as goal

pub returns : goal.returns
unfolding individual
returns c = rw (← c.exp.ensures)
