-- PointsPaths: the ways through the code of points, for the proofs of the crates above.
-- Fits: the fit of an objective, by its own setup and by the session's.
pub mod PointsPaths
pub mod Fits
