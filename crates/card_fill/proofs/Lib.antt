-- The laws that belong to no one function.
pub mod Making
pub mod Right
pub mod Only
