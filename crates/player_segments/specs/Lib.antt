-- Moves along the segments of a track (SCOPE 10).
pub mod Segments
pub mod Closed
