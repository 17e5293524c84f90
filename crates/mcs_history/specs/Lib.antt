-- A history of the library's calls.
pub mod Library
