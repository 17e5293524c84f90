-- What the contracts name.
pub mod Links
