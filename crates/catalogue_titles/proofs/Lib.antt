-- The laws that belong to no one function.
pub mod Laws
pub mod Parts
pub mod Zeros
pub mod Orders
pub mod Settled
