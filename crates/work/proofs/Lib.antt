-- Paths, ResultsPaths: the ways through the code of lib and results, for its proofs.
pub mod Paths
pub mod ResultsPaths
