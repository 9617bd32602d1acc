-- What a reader must believe of this crate: Records (document 01's records, their check 20, and its simulator).
pub mod Records
