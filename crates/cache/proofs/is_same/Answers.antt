-- `is_same` meets its contract: each test after those before it. Assumes nothing.
use Rattle.std.proofs.Common.{◌∙◌, ne_eqb}
use Rattle.float64.specs.Pick.{yes, no}
use Rattle.cache.proofs.Paths.{differ, agree, alike, seven}
use Rattle.cache.specs.Cache.{key_at, same_key, is_same}
use Rattle.cache.proofs.is_same.Goals as goal
use Rattle.cache.proofs.is_same.Goals.{then-read-key, else-read-key, then-read-key-2, else-read-key-2, then-read-key-3, else-read-key-3, then-read-key-4, else-read-key-4, then-read-key-5, else-read-key-5}

pub returns-then-read-key-6 : goal.returns-then-read-key-6
unfolding is_same same_key key_at
returns-then-read-key-6 c =
    seven _ _ _ _ _ _ _
    (elim c.if-read-key.branch [
      | then-read-key w ↦ yes _ (agree c.read.ensures w.if-read-key.true) (w.value-is ∙ alike _ w.read-then-read-key.ensures)
      | else-read-key w ↦ no _ (differ c.read.ensures w.if-read-key.false) (w.value-is ∙ ne_eqb _ _ w.if-read-key.false)
    ])
    (elim c.if-read-key-2.branch [
      | then-read-key-2 w ↦ yes _ w.if-read-key-2.true (w.value-is ∙ alike _ w.read-then-read-key-2.ensures)
      | else-read-key-2 w ↦ no _ w.if-read-key-2.false (w.value-is ∙ w.if-read-key-2.false)
    ])
    (elim c.if-read-key-3.branch [
      | then-read-key-3 w ↦ yes _ w.if-read-key-3.true (w.value-is ∙ alike _ w.read-then-read-key-3.ensures)
      | else-read-key-3 w ↦ no _ w.if-read-key-3.false (w.value-is ∙ w.if-read-key-3.false)
    ])
    (elim c.if-read-key-4.branch [
      | then-read-key-4 w ↦ yes _ w.if-read-key-4.true (w.value-is ∙ alike _ w.read-then-read-key-4.ensures)
      | else-read-key-4 w ↦ no _ w.if-read-key-4.false (w.value-is ∙ w.if-read-key-4.false)
    ])
    (elim c.if-read-key-5.branch [
      | then-read-key-5 w ↦ yes _ w.if-read-key-5.true (w.value-is ∙ alike _ w.read-then-read-key-5.ensures)
      | else-read-key-5 w ↦ no _ w.if-read-key-5.false (w.value-is ∙ w.if-read-key-5.false)
    ])
    (yes _ c.if-read-key-6.true (alike _ c.read-then-read-key-6.ensures))

pub returns-else-read-key-6 : goal.returns-else-read-key-6
unfolding is_same same_key key_at
returns-else-read-key-6 c =
    seven _ _ _ _ _ _ _
    (elim c.if-read-key.branch [
      | then-read-key w ↦ yes _ (agree c.read.ensures w.if-read-key.true) (w.value-is ∙ alike _ w.read-then-read-key.ensures)
      | else-read-key w ↦ no _ (differ c.read.ensures w.if-read-key.false) (w.value-is ∙ ne_eqb _ _ w.if-read-key.false)
    ])
    (elim c.if-read-key-2.branch [
      | then-read-key-2 w ↦ yes _ w.if-read-key-2.true (w.value-is ∙ alike _ w.read-then-read-key-2.ensures)
      | else-read-key-2 w ↦ no _ w.if-read-key-2.false (w.value-is ∙ w.if-read-key-2.false)
    ])
    (elim c.if-read-key-3.branch [
      | then-read-key-3 w ↦ yes _ w.if-read-key-3.true (w.value-is ∙ alike _ w.read-then-read-key-3.ensures)
      | else-read-key-3 w ↦ no _ w.if-read-key-3.false (w.value-is ∙ w.if-read-key-3.false)
    ])
    (elim c.if-read-key-4.branch [
      | then-read-key-4 w ↦ yes _ w.if-read-key-4.true (w.value-is ∙ alike _ w.read-then-read-key-4.ensures)
      | else-read-key-4 w ↦ no _ w.if-read-key-4.false (w.value-is ∙ w.if-read-key-4.false)
    ])
    (elim c.if-read-key-5.branch [
      | then-read-key-5 w ↦ yes _ w.if-read-key-5.true (w.value-is ∙ alike _ w.read-then-read-key-5.ensures)
      | else-read-key-5 w ↦ no _ w.if-read-key-5.false (w.value-is ∙ w.if-read-key-5.false)
    ])
    (no _ c.if-read-key-6.false c.if-read-key-6.false)
