-- What a reader must believe of this crate: Work (where rows and results stand in their words, and check 17).
pub mod Work
