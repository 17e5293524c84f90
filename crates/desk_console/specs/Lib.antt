-- What the contracts name.
pub mod Console
