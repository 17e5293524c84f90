-- The laws that belong to no one function.
pub mod Orders
pub mod Sitting
pub mod Settled
