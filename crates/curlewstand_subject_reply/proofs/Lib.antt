-- Paths: what the parts of the reply answered, put together.
mod Paths
