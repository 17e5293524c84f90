-- The laws that belong to no one function.
pub mod Pieces
pub mod Spans
pub mod Left
pub mod Stores
pub mod Octets
pub mod Steps
pub mod Counting
pub mod Writing
pub mod Answers
pub mod Settled
pub mod Refusals
pub mod Each
pub mod RoundTrip
pub mod OnlyEntries
pub mod ReadBack
pub mod Few
