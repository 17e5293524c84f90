-- The laws that belong to no one function.
pub mod Ready
pub mod Choices
pub mod Held
pub mod Past
pub mod Named
pub mod Kept
pub mod Names
pub mod Alone
pub mod Tracks
pub mod Arrived
pub mod Clocked
pub mod Cases01
