-- Paths: the ways through the code, for its proofs. Turns: where the code goes on is where the rules do. Scale: the scale of a reduction is 2 to the minus reduction.
pub mod Paths
pub mod Turns
pub mod Scale
