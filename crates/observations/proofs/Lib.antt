-- Replied: what the parts of a reply answered, put together.
pub mod Replied
