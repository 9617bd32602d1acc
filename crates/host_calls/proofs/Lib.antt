-- Paths: the ways through the code, for its proofs. Whole: the calls over a list of observations, put together from their parts.
pub mod Paths
pub mod Whole
