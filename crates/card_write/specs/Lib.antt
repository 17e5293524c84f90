-- The card of a catalogue, and what writing it says (SCOPE 3.15 to 3.17).
pub mod Card
pub mod Write
