-- The manual's Goto of a player (SCOPE 15).
pub mod Goto
