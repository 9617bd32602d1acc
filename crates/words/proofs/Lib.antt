-- Paths: the ways through the code, for its proofs. Front: what is written stands at the front of what is lent, for every caller. Pages: one
-- text after another on a page, for every caller. Runs: the part of a list that a loop goes through, for every such loop.
pub mod Paths
pub mod Front
pub mod Pages
pub mod Runs
