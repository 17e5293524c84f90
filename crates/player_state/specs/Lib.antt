-- The player's state, and what alters it without a look at the catalogue (SCOPE 8 and 9).
pub mod Player
pub mod Modes
pub mod Positions
