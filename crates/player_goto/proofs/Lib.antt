-- The laws that belong to no one function.
pub mod Reached
pub mod Agree
pub mod Counted
pub mod Unnamed
