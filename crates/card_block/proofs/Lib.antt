-- The laws that belong to no one function.
pub mod SumLaws
pub mod Records
