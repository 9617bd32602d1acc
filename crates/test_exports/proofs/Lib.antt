-- EvaluationsPaths: the ways through the end of an evaluation. Whole: the exported function that takes lent observations, put together.
pub mod EvaluationsPaths
pub mod Whole
