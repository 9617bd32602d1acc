-- Paths: what the parts of a call answered, put together.
pub mod Paths
