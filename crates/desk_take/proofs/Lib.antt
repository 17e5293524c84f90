-- The laws that belong to no one function.
pub mod Orders
pub mod Laws
pub mod Settled
