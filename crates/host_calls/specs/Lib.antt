-- What a reader must believe of this crate: Hosting (what a host gives, and a call's answer, state and tally as it gets them),
-- SubjectReplies (a reply that lends the awaited subject's observations alone) and Figures (the shrinkage that a host is told).
pub mod Hosting
pub mod SubjectReplies
pub mod Figures
