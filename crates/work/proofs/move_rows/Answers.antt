-- `move_rows` meets its contract. Assumes nothing.
use Rattle.work.proofs.Paths.{moves}
use Rattle.work.proofs.move_rows.Goals as goal

pub returns : goal.returns
returns c = moves _ _ _ c.copy_block.ensures c.copy_block-2.ensures c.copy_block-3.ensures
