-- Paths, KeptPointsPaths, AnswersPaths, StepsPaths: the ways through the code of lib, kept_points, answers and steps, for its proofs.
-- Loops: the ways through the labelled loop. Passing: a kept evaluation is a turn that goes on.
pub mod Paths
pub mod KeptPointsPaths
pub mod AnswersPaths
pub mod Loops
pub mod Passing
pub mod StepsPaths
