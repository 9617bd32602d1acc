-- `reply` meets its contract: each turn by its law. Assumes nothing.
use Rattle.focei_records.specs.Records.{replied_from}
use Rattle.words.specs.Page.{with_items}
use Prim.Native.Nat.{◌-◌}
use Rattle.std.proofs.Common.{◌≡◌}
use Rattle.focei_records.proofs.reply.Given as goal

abbrev pub invariant-loop-i : goal.invariant-loop-i
invariant-loop-i l = with_items (replied_from (l.rows - (l.i - l.first)) l.input l.individual l.i) l.page ≡ with_items (replied_from l.rows l.input l.individual l.first)
    l.initial.page
