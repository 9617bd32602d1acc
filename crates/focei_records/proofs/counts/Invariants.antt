-- `counts` meets its contract: each turn by its law. Assumes nothing.
use Rattle.focei_records.specs.Records.{counts_from}
use Rattle.words.specs.Page.{with_items}
use Prim.Native.Nat.{◌-◌}
use Rattle.std.proofs.Common.{◌≡◌}
use Rattle.focei_records.proofs.counts.Given as goal

abbrev pub invariant-loop-subject : goal.invariant-loop-subject
invariant-loop-subject l = with_items (counts_from (l.subjects - l.subject) l.input l.subject) l.page ≡ with_items (counts_from l.subjects l.input 0) l.initial.page
