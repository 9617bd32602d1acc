-- `ReplyRow::added_to` meets its contract: each exit by its law. Assumes nothing.
use Rattle.std.proofs.Common.{◌∙◌}
use Rattle.subject.proofs.RowsPaths.{own_or, one_effect, two_effects}
use Rattle.subject.proofs.rows.ReplyRow.added_to.Goals as goal

pub returns-then-self-ne2 : goal.returns-then-self-ne2
returns-then-self-ne2 c =
    one_effect _ _ _ _ _ c.column.ensures c.from_word-prediction.ensures c.f_eta-first.ensures c.if-self-ne2.true (c.unwrap_or-additive.ensures ∙ own_or _ _)
    c.add_row.ensures

pub returns : goal.returns
returns c =
    two_effects _ _ _ _ _ c.column.ensures c.from_word-prediction.ensures c.f_eta-first.ensures c.if-self-ne2.false c.f_eta-second.ensures
    c.add_row_2d.ensures
