-- The laws that belong to no one function.
pub mod Ahead
pub mod Lines
pub mod Words
pub mod Form
pub mod Starting
pub mod Meaning
pub mod Reading
pub mod Skimming
pub mod Judging
pub mod Accepted
pub mod Small
pub mod Settled
pub mod Written
pub mod Theorems
pub mod Said
