-- `line` meets its contract: each field by its law. Assumes nothing.
use Rattle.std.proofs.Common.{◌≡◌, map, drop}
use Rattle.words.specs.Page.{with_items}
use Rattle.focei_text.specs.Report.{fields, shown}
use Rattle.focei_text.proofs.line.Given as goal

abbrev pub invariant-loop-field : goal.invariant-loop-field
invariant-loop-field l = with_items (fields (map shown (drop l.field-index l.fields))) l.page ≡ with_items (fields (map shown l.fields)) l.initial.page
