-- Paths: the ways through the code of lib and checks, for its proofs. Bounds: the bounds that a passed check gives. Subject: the exits of
-- `subject_checks`.
pub mod Paths
pub mod Bounds
mod Subject
