-- What a reader must believe of this crate: which observations lent words are, and that a call is the session's with these observations.
pub mod Recorded
