-- The laws that belong to no one function.
pub mod Leaving
pub mod Short
pub mod Settled
