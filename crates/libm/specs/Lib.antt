-- Document 01's stand-ins for libm: what a reader must believe, to be held beside musl 1.1.20's log.c and exp.c. Constants has what the
-- two have in common.
pub mod Constants
pub mod Log
pub mod Exp
