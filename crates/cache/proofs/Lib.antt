-- Paths, EntriesPaths, KeepingPaths: the ways through the code of lib, entries and keeping, for its proofs. Runs: words copied one after
-- another. Run has the theorem, `refinement`. It rests on Refine (insert, and the list's own laws), Placed (one more entry), Dropped
-- (eviction), Walked (find) and Filter (a chain's filter).
pub mod Paths
pub mod Filter
pub mod Walked
pub mod Dropped
pub mod Placed
pub mod Refine
pub mod Run
pub mod Runs
pub mod EntriesPaths
pub mod KeepingPaths
