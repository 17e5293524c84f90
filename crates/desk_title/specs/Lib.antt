-- What the contracts name.
pub mod Title
