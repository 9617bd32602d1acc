-- What a reader must believe of this crate: Reply (what the words of a reply are), Subject (to be held beside `subject` of
-- population_focei.rs and population_focei_2d.rs, after the simulator's call), Observations (document 01's check 4) and Claim (what is
-- claimed of an evaluation, whatever the reply).
pub mod Claim
pub mod Observations
pub mod Reply
pub mod Subject
