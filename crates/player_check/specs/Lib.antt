-- When a state of the player stands in a catalogue (SCOPE 20.5).
pub mod Standing
