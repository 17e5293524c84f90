-- The laws that belong to no one function.
pub mod Rows
pub mod Bits
pub mod Chars
pub mod Run
pub mod Law
pub mod Settled
