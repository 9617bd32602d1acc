-- Paths, RowsPaths: the ways through the code of lib and rows, for its proofs. Turns: what one observation more makes, in the form that
-- the code needs. Rest: what is left of a run that a loop goes through. Ends: how an evaluation ends, and that it writes to its trial block
-- alone (specs/Claim.antt).
pub mod Ends
pub mod Paths
pub mod Turns
pub mod Rest
pub mod RowsPaths
pub mod ChecksPaths
pub mod Deviation
