-- The tables of a catalogue, what their records hold (SCOPE 4.1, 4.3, 4.8, 4.9), and the numbers of the objects in them (SCOPE 7.1).
pub mod Tables
pub mod Objects
