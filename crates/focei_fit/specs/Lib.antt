-- What a reader must believe of this crate: Output (document 01's program, from bytes to bytes) and Claim (how long its text is).
pub mod Output
pub mod Claim
