-- What the contracts name.
pub mod Calls
