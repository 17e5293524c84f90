-- The values of the characteristics (SCOPE 16).
pub mod Values
