-- The rules that a catalogue keeps (SCOPE 4.2 to 4.12).
pub mod Rules
