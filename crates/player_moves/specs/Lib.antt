-- What the opcodes, the clock and the writes do to the player, over a catalogue (SCOPE 8 to 14); and the cases of SCOPE 22.2.
pub mod Moves
pub mod Control
pub mod Clock
pub mod Cases01
