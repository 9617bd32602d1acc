-- `every_file` is in Files, `suffices` in Questions, `never_19` in Never19; Lines has what a line that is printed begins with.
pub mod Files
pub mod Lines
pub mod Never19
pub mod Questions
