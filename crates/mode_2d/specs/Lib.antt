-- What a reader must believe of this crate: Rules, to be held beside the source's `mode` and `mode_from_seed`. Turns is between the
-- functions of the code, and no claim cites it.
pub mod Rules
pub mod Turns
