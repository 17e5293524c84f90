-- The clock (SCOPE 13.2 and 13.3).
pub mod Clock
