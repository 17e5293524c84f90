-- What the contracts name.
pub mod Codec
pub mod Stored
