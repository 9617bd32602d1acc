-- What a reader must believe of this crate, what load and save compute: SearchWords (a search with one effect as twenty words),
-- SearchWords2 (with two effects as twenty-five) and SessionWords (a session's state as 44).
pub mod SearchWords
pub mod SearchWords2
pub mod SessionWords
