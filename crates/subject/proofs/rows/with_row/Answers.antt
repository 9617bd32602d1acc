-- `with_row` meets its contract. Assumes nothing.
use Rattle.matrix.proofs.Laws.{at_0, at_1}
use Rattle.subject.specs.Subject.{with_row}
use Rattle.subject.proofs.rows.with_row.Goals as goal

pub returns : goal.returns
unfolding with_row
returns c = rw (c.wrapping_add_usize.ensures.value, c.matrix_of.ensures, c.add_nll.ensures, c.add_information-information.ensures, c.array_of.ensures, c.add_score-score.ensures)

pub bounds-score-0 : goal.bounds-score-0
bounds-score-0 = at_0

pub bounds-score-1 : goal.bounds-score-1
bounds-score-1 = at_1
