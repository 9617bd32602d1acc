-- Paths: what observations in words are, for the proofs of one and of a run of them. RecordedCallsPaths: the calls, put
-- together from their parts.
pub mod Paths
pub mod RecordedCallsPaths
