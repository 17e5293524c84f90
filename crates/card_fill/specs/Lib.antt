-- A block of a card as it is written (SCOPE 3.16).
pub mod Filled
