-- The laws that belong to no one function.
pub mod Scan
pub mod Rising
pub mod Moves
pub mod Laws
