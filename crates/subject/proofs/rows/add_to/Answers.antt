-- `add_to` meets its contract: each exit by its law. Assumes nothing.
use Rattle.std.proofs.Common.{sym, ap, ◌∙◌, arith}
use Rattle.subject.specs.Subject.{evaluating, Evaluation}
use Rattle.subject.proofs.Paths.{passed_on}
use Rattle.subject.proofs.RowsPaths.{row_says, row_missing, row_taken}
use Rattle.subject.proofs.rows.add_to.Goals as goal

pub invariant_of-row : goal.invariant_of-row
invariant_of-row c =
    let asked = row_says _ _ _ _ _ c.row_at.ensures (grind arith) in
    record { begins = asked.0; has_output = asked.1 }

pub returns : goal.returns
returns c = row_taken _ _ _ _ _ c.row_at.ensures (grind arith) c.prediction_row.ensures c.write_row.ensures c.added_to.ensures

pub returns-in_err-at : goal.returns-in_err-at
returns-in_err-at c =
    ap (λ (e : Evaluation). evaluating e c.args.work.now) (passed_on _ c.from_residual.ensures.1)
    ∙ row_missing _ _ _ _ _ c.row_at.ensures (sym c.ok_or.ensures.value ∙ c.in_err-at.was)
