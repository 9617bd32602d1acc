-- `with_terms` meets its contract. Assumes nothing.
use Rattle.subject.specs.Subject.{with_terms}
use Rattle.subject.proofs.rows.with_terms.Goals as goal

pub returns : goal.returns
unfolding with_terms
returns c = rw c.wrapping_add_usize.ensures.value
