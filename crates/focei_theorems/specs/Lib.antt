-- What a reader must believe of this crate: Claim (what is claimed of the program for every input).
pub mod Claim
