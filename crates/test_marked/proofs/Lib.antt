-- Table: the table of document 01's marked facts, computed. It rests on Printed (what the program prints), Played (the worked sessions
-- with two effects), Laws (the word of what a leaf wrote) and Computed (names for the definitions that a run computes with).
pub mod Computed
pub mod Laws
pub mod Played
pub mod Printed
pub mod Table
