-- `put_each` meets its contract: each turn by its law. Assumes nothing.
use Rattle.std.proofs.Common.{◌≡◌}
use Prim.Native.Nat.{◌+◌, ◌-◌}
use lib.ListN.{length, drop}
use Rattle.state_words.specs.SessionWords.{put_from}
use Rattle.state_words.proofs.put_each.Given as goal

abbrev pub invariant-loop-i : goal.invariant-loop-i
invariant-loop-i l = (put_from (l.from + l.i) (drop l.i l.values) l.words ≡ put_from l.from l.values l.initial.words) × (length l.words ≡ length l.initial.words)
