-- `focei` meets its contract. Assumes nothing.
use Rattle.std.proofs.Common.{rules, arith, sym}
use lib.Seq.{length-take-le}
use Rattle.focei_fit.proofs.Room.{prints}
use Rattle.focei_fit.proofs.focei.Goals as goal

pub slice_bounds-write_text-end : goal.slice_bounds-write_text-end
slice_bounds-write_text-end c = let least = c.min.ensures in sym (length-take-le _ _ (omega (arith, least)))

pub returns : goal.returns
returns c =
    let a = c.args in
    record { input_len = search rules; out_after = prints a.input.now a.out.now a.got (omega arith) c.min.ensures c.write_text.ensures }
