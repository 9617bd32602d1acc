-- What a reader must believe: Run, what a run of the source is; Source, `mode` of population_focei.rs; Source2, `mode_from_seed` and `mode`
-- of population_focei_2d.rs; Claim and Claim2, that the rules of the crates mode and mode_2d say what these say.
pub mod Run
pub mod Source
pub mod Source2
pub mod Claim
pub mod Claim2
