-- The laws that belong to no one function.
pub mod Differing
pub mod Laws
