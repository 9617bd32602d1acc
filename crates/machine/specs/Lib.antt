-- What a reader must believe: Rules (a search and what is claimed of its histories), Machine (what a call and a session are), Log (the
-- searches of a session, as an observer notes them), Observed (how a machine's states are read as searches, and what is logged) and Claim
-- (demand 3). Lawful is what a machine has to show for it.
pub mod Rules
pub mod Machine
pub mod Log
pub mod Observed
pub mod Claim
pub mod Lawful
