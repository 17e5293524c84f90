-- The laws that belong to no one function.
pub mod Steps
pub mod Places
pub mod Along
pub mod Leads
