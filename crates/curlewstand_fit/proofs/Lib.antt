-- Fitted: what a host is given where there is room for the longest text, and where there is none.
pub mod Fitted
