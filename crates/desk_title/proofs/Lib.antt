-- The laws that belong to no one function.
pub mod Lying
pub mod Settled
