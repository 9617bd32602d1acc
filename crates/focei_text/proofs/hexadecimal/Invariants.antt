-- `hexadecimal` meets its contract: each turn by its law. Assumes nothing.
use Rattle.words.specs.Page.{with_items}
use Rattle.focei_text.specs.Writing.{hex_from}
use Prim.Native.Nat.{◌-◌}
use Rattle.std.proofs.Common.{◌≡◌}
use Rattle.focei_text.proofs.hexadecimal.Given as goal

abbrev pub invariant-loop-turn : goal.invariant-loop-turn
invariant-loop-turn l = with_items (hex_from (16 - l._turn) l.rest) l.page ≡ with_items (hex_from 16 l.value) l.initial.page
