-- What a reader must believe of this crate: what the answer says of a refusal of the checks.
pub mod Refusals
