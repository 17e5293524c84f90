-- What the contracts name.
pub mod Changes
pub mod Owed
