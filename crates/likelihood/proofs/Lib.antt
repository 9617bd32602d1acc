-- Variance: the two exits of `is_no_variance`, and what it says to a caller.
pub mod Variance
