-- What a reader must believe of this crate: what an objective does with one subject's search, by value. To be held beside `subject`,
-- `mode` and `population` of the two sources.
pub mod Subjects
