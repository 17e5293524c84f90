-- The laws that belong to no one function.
pub mod Laws
pub mod Fits
pub mod Parts
pub mod Written
