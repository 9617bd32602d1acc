-- Session: demand 3 over any rules and any machine that shows `Lawful` (specs/Claim.antt).
pub mod Session
