-- What the contract names.
pub mod Manual
