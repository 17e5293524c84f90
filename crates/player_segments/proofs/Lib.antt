-- The laws that belong to no one function.
pub mod Sides
pub mod Cuts
pub mod Whole
pub mod Steps
pub mod Laws
