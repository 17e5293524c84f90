-- The laws that belong to no one function.
pub mod Gates
pub mod Settled
pub mod Orders
