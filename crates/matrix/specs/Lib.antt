-- What a reader must believe of this crate: Matrix, to be held beside population_focei_2d.rs.
pub mod Matrix
