-- The laws that belong to no one function.
pub mod Cases
pub mod Settled
pub mod Rows
pub mod Bounded
pub mod Words
pub mod Sweep
pub mod Filling
pub mod Octets
pub mod Laying
pub mod Passed
