-- Paths: the ways through the code, for its proofs. Bounds: how long its words are, for every caller.
pub mod Paths
pub mod Bounds
