-- What the contracts name.
pub mod Read
pub mod Write
