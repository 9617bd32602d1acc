-- Paths: the ways through the code, for its proofs. Room: the text is short enough for the program to print it whole. Spoken: it is never empty.
pub mod Paths
pub mod Room
pub mod Spoken
