-- What a reader must believe: Cache, what the functions compute over the lent words; Kept, what the words stand for, and what the
-- source's map and queue do; Claim, that the two agree.
pub mod Cache
pub mod Kept
pub mod Claim
