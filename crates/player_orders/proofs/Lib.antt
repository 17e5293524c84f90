-- The laws that belong to no one function.
pub mod Compare
pub mod Sorted
pub mod Span
pub mod Numbers
pub mod Few
pub mod Nearest
pub mod Halve
pub mod Moves
pub mod Laws
