-- Document 01's marked facts: Marked is the table; Examples and Session2 have what its last facts are about.
pub mod Examples
pub mod Session2
pub mod Marked
