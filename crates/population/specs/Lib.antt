-- What a reader must believe of this crate: Kept (what an objective asks of its kept evaluations) and Population (a step of an
-- objective). The others are for the contracts of the code's own parts: Through (the way of a search through kept evaluations), Alone
-- (that a search of either kind, alone, does what the objective's does), Answers (a reply is kept) and Steps (where a step begins, and
-- the parts of its turn).
pub mod Kept
pub mod Population
pub mod Through
pub mod Answers
pub mod Steps
pub mod Alone
