-- What a reader must believe of this crate: Fit (what a host is given of document 01's program).
pub mod Fit
