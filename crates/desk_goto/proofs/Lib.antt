-- The laws that belong to no one function.
pub mod Standing
pub mod Settled
pub mod Agree
