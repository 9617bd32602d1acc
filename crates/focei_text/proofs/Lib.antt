-- Paths, ReportPaths: the ways through the code for numbers and for lines, for its proofs. Lengths: how long the lines are, for every
-- caller.
pub mod Paths
pub mod ReportPaths
pub mod Lengths
