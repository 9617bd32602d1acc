-- `block` meets its contract. Assumes nothing.
use Rattle.std.proofs.Common.{◌≡◌, arith}
use Rattle.words.specs.Words.{smaller}
use Rattle.work.proofs.Paths.{block_begins}
use Rattle.work.proofs.block.Goals as goal

pub returns : goal.returns
returns c =
    let k : c.min.result ≡ smaller c.args.number 3 = omega arith in
    block_begins _ _ c.rows_length.ensures k
