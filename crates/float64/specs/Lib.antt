-- What a reader must believe of this crate is in Float64. Arithmetic, Pick and Answer are how every definition of this repository writes
-- an operation, a case and an answer.
pub mod Arithmetic
pub mod Answer
pub mod Float64
pub mod Pick
