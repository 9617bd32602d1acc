-- Found has the theorem for one effect, `one_search`. It rests on Words (the rules' words are the claim's), Count (at most 82 points, and
-- all of them at 15), Grid (where the grid's points lie), Trials (a bracket with its best point), Screen (the grid and its cell) and
-- Refusals (13, 14 and the numbers). Tolerance: the range of the tolerance. Worked: histories that come to a mode, to 13 and to 14.
-- Found2 has the theorem for two effects, `two_search`. It rests on Words2, Count2 (at most 6,343 points), Precision and Joint (joint is
-- a number) and Descent (a search's way, and what is to come of it). Worked2: histories that come to a mode, to 13, to 14 and to 16.
-- Ceiling, for both: how many points a search of any rules asks for.
pub mod Ceiling
pub mod Words
pub mod Trials
pub mod Grid
pub mod Count
pub mod Screen
pub mod Refusals
pub mod Found
pub mod Tolerance
pub mod Worked
pub mod Words2
pub mod Count2
pub mod Joint
pub mod Precision
pub mod Descent
pub mod Found2
pub mod Worked2
