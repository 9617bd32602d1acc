-- Each claim of specs/ has its theorem in the file of the same name, but for these: Claim in Session (`every_session`), Setup in Opening,
-- Shown in Written (`every_word`). What they rest on:
-- the machine is lawful: Entries, Turns (every entry and every turn goes one of the ways of `Lawful`), Searches (a subject's search is a
-- search of the rules), Standing (what stays true from call to call), Always (what a machine's turns and entries keep), Stores (what an
-- objective needs of its kept evaluations), Accepted, Domains, Points (what the checks give);
-- the requests are enough: Entered, Requests, Remaining, Limits, Endings;
-- where a session stands: Placed, Lengths; SubjectChecks is for SubjectReply, Copies for Refined;
-- what words show: Words, ModeWords, Blocks, Trials, Results, Middle; what is asked for and kept: Asked, Evaluated;
-- floats of the format: Formats, Formatted, Fitting. Plain has small facts that the others share, FirstSearch what
-- holds of a subject's first search.
pub mod Accepted
pub mod Always
pub mod Asked
pub mod Blocks
pub mod Copies
pub mod Domains
pub mod Endings
pub mod Entered
pub mod Entries
pub mod Evaluated
pub mod Evaluations
pub mod FirstSearch
pub mod Fitting
pub mod Formats
pub mod Formatted
pub mod Host
pub mod Lengths
pub mod LetIn
pub mod Limits
pub mod Middle
pub mod ModeWords
pub mod Opening
pub mod Placed
pub mod Plain
pub mod Points
pub mod Refined
pub mod Refusals
pub mod Remaining
pub mod Requests
pub mod Results
pub mod Runs
pub mod Searches
pub mod Session
pub mod Standing
pub mod Stores
pub mod SubjectChecks
pub mod SubjectReply
pub mod Trials
pub mod Turns
pub mod Unwritten
pub mod Words
pub mod Written
