-- What the proofs of this crate, and of others on pairs and matrices, share. Assumes nothing.
use Prim.Native.Nat.{◌<◌}
use native.Mathlib.Omega.{arith}

-- ---- at any place of the code, the indexes 0 and 1 are below 2
pub at_0 : {C : Type 0} → C → 0 < 2
at_0 c = omega arith

pub at_1 : {C : Type 0} → C → 1 < 2
at_1 c = omega arith
