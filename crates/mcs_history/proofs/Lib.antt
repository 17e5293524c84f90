-- The laws of the library's histories.
pub mod Meaning
pub mod Hearing
pub mod Demand3
pub mod Quiet
pub mod Contracts
