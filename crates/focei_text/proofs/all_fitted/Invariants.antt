-- `all_fitted` meets its contract: each turn by its law. Assumes nothing.
use Rattle.focei_text.specs.Report.{all_fitted}
use Rattle.words.specs.Page.{with_items}
use Prim.Native.Nat.{◌+◌, ◌*◌, ◌-◌, ◌≤◌}
use Rattle.std.proofs.Common.{◌≡◌}
use Rattle.focei_text.proofs.all_fitted.Given as goal

abbrev pub invariant-loop-subject : goal.invariant-loop-subject
invariant-loop-subject l = (with_items (all_fitted (l.subjects - l.subject) l.subject l.word l.counts l.results) l.page ≡ with_items
    (all_fitted l.subjects 0 (3 * l.subjects) l.counts l.results) l.initial.page) × (l.word ≤ 12288 + 200000 * l.subject)
