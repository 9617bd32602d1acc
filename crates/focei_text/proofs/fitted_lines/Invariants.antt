-- `fitted_lines` meets its contract: each turn by its law. Assumes nothing.
use Rattle.focei_text.specs.Report.{fitted_lines}
use Rattle.words.specs.Page.{with_items}
use Prim.Native.Nat.{◌+◌, ◌*◌, ◌-◌}
use Rattle.std.proofs.Common.{◌≡◌}
use Rattle.focei_text.proofs.fitted_lines.Given as goal

abbrev pub invariant-loop-i : goal.invariant-loop-i
invariant-loop-i l = with_items (fitted_lines (l.rows - l.i) l.subject l.i (l.first + 2 * l.i) l.results) l.page ≡ with_items (fitted_lines l.rows l.subject 0 l.first l.results)
    l.initial.page
