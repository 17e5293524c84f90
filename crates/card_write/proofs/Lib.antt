-- The laws that belong to no one function.
pub mod Runs
pub mod Joining
pub mod Loading
pub mod Full
pub mod Peeling
pub mod Again
pub mod Answers
pub mod Outcome
pub mod Settled
pub mod Refusals
pub mod RoundTrip
