-- What a reader must believe of this crate: Rules, to be held beside the source's `mode`.
pub mod Rules
