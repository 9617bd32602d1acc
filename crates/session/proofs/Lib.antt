-- Replies: the parts of a reply's admission, put together. Loops: the loop over the requests, and the second part of a reply, with what
-- the searches have in common at hand.
pub mod Replies
pub mod Loops
