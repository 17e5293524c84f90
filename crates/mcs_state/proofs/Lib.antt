-- The laws that belong to no one function.
pub mod Laid
pub mod Each
pub mod Places
pub mod Round
pub mod Plain
pub mod Pasted
pub mod Stored
