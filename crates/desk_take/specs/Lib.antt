-- What the contracts name.
pub mod Serving
pub mod Take
