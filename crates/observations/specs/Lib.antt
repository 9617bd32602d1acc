-- What a reader must believe of this crate: Lending (the evaluation of a reply over lent observations). The check of the observations is
-- defined in the crate subject (Observations).
pub mod Lending
