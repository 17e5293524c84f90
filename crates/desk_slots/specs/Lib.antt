-- The characteristics, the slots of a client as words of bits, and the round.
pub mod Table
pub mod Slots
pub mod Characteristics
pub mod Round
