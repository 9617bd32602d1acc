-- What the exported parts answer and write, as numbers, arrays and words: Leaves (matrices and rows), Mode and Mode2d (the searches as
-- words), Words (kept evaluations) and Evaluations.
pub mod Leaves
pub mod Mode
pub mod Mode2d
pub mod Words
pub mod Evaluations
