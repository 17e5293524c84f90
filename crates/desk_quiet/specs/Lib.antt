-- When things go quiet (SCOPE 21.11 and 21.12): how many takes that needs, and what each client then knows.
pub mod Quiet
pub mod Known
pub mod Full
