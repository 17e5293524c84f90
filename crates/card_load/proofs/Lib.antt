-- The laws that belong to no one function.
pub mod Blocks
pub mod Filling
pub mod Lengths
pub mod Answers
pub mod Sound
pub mod Outcome
pub mod Settled
pub mod Refusals
