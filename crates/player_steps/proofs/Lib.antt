-- The laws that belong to no one function.
pub mod Tracks
pub mod Groups
pub mod Segments
