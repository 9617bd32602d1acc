-- `libm::exp` meets its contract. Assumes nothing.
use Rattle.std.proofs.Common.{refl}
use lib.Ieee.{of_bits, div}
use Rattle.float64.specs.Pick.{yes, no}
use Rattle.libm.specs.Exp.{exp}
use Rattle.libm.proofs.exp.Goals.{else-x-via-then-x+else-x-2, else-x-via-else-x}
use Rattle.libm.proofs.exp.Goals as goal

pub returns-else-x : goal.returns-else-x
unfolding exp div of_bits
returns-else-x c =
    elim c.else-x.branch [
      | else-x-via-then-x+else-x-2 w ↦ yes _ w.if-x.true (no _ w.if-x-2.false refl)
      | else-x-via-else-x w ↦ no _ w.if-x.false refl
    ]
