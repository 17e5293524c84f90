-- The small definitions that every layer needs (SCOPE 2, 4 and 20).
pub mod Cases
pub mod Limits
pub mod Refusals
pub mod Lists
pub mod Words
