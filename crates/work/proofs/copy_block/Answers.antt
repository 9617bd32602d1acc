-- `copy_block` meets its contract: each exit by its law. Assumes nothing.
use Rattle.std.proofs.Common.{arith}
use Rattle.work.proofs.Paths.{block_low, stays, copies}
use Rattle.work.proofs.copy_block.Goals as goal

pub returns-then-from-to : goal.returns-then-from-to
returns-then-from-to c = stays _ _ _ _ c.if-from-to.true

pub overflow_add-max : goal.overflow_add-max
overflow_add-max c =
    let first = block_low _ _ c.block-first.ensures in
    let last = block_low _ _ c.block-last.ensures in
    omega arith

pub copy_each-requires : goal.copy_each-requires
copy_each-requires c =
    let first = block_low _ _ c.block-first.ensures in
    let last = block_low _ _ c.block-last.ensures in
    (omega arith, omega arith, omega arith)

pub copy_lent-requires : goal.copy_lent-requires
copy_lent-requires c = (omega arith, omega arith)

pub returns-then-max-n : goal.returns-then-max-n
returns-then-max-n c = copies _ _ _ _ c.if-from-to.false c.rows_length-n.ensures c.block-first.ensures c.block-last.ensures c.copy_lent.ensures

pub returns-else-max-n : goal.returns-else-max-n
returns-else-max-n c = copies _ _ _ _ c.if-from-to.false c.rows_length-n.ensures c.block-first.ensures c.block-last.ensures c.copy_each.ensures
