-- Demand 3 (SCOPE 21.3 to 21.9): what the rules say after any list of calls, and the desk after the same list.
pub mod Calls
pub mod Ledger
pub mod Rounds
pub mod History
pub mod Stored
pub mod Reached
pub mod Apart
pub mod Names
