-- The Group object and the Track Segments object (SCOPE 7.2 to 7.8).
pub mod Entries
pub mod Objects
pub mod Reading
