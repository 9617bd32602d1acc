-- What a reader must believe of this crate: Admission (document 01's checks 1 to 5, in its order) and SubjectChecks (the same where one
-- subject's observations alone are lent).
pub mod Admission
pub mod SubjectChecks
