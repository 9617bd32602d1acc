-- Whole: whole numbers, their bits and their floats. Normal: the words of positive floats. Reduction: exp's multiple of ln 2 is small.
pub mod Whole
pub mod Normal
pub mod Reduction
