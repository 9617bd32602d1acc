-- `subject_lines` meets its contract: each turn by its law. Assumes nothing.
use Rattle.focei_text.specs.Report.{subject_lines}
use Rattle.words.specs.Page.{with_items}
use Prim.Native.Nat.{◌-◌}
use Rattle.std.proofs.Common.{◌≡◌}
use Rattle.focei_text.proofs.subject_lines.Given as goal

abbrev pub invariant-loop-subject : goal.invariant-loop-subject
invariant-loop-subject l = with_items (subject_lines (l.subjects - l.subject) l.subject l.results) l.page ≡ with_items (subject_lines l.subjects 0 l.results)
    l.initial.page
