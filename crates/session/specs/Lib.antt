-- What a reader must believe of this crate: Session (what a session and its calls are, over any store of kept evaluations), Calls (the
-- calls as the code has them, over lent words), SubjectReply (whether a reply is accepted that lends one subject's observations) and
-- Figures (whether there is a shrinkage, and the most evaluations of a search).
pub mod Session
pub mod Calls
pub mod SubjectReply
pub mod Figures
