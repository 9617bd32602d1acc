-- What a reader must believe of this crate: Terms, to be held beside the paper; RowTerms, to be held beside population_focei.rs; Row2, to
-- be held beside population_focei_2d.rs.
pub mod Terms
pub mod RowTerms
pub mod Row2
