-- `ReplyRow::f_eta` meets its contract. Assumes nothing.
use Rattle.subject.specs.Subject.{f_eta}
use Rattle.subject.proofs.rows.ReplyRow.f_eta.Goals as goal

pub returns : goal.returns
unfolding f_eta
returns c = rw (c.from_word.ensures, c.column.ensures)
