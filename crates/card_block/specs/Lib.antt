-- A block of a card, and its check octets (SCOPE 3.2 to 3.9).
pub mod Sums
pub mod Block
