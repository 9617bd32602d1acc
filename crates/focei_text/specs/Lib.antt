-- What a reader must believe of this crate: Writing (the digits of numbers, as bytes) and Report (the lines that document 01's program
-- prints).
pub mod Writing
pub mod Report
