-- Paths: the ways through the code, for its proofs. Back: what was saved is loaded again.
pub mod Paths
pub mod Back
