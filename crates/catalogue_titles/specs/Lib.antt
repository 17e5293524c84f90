-- The office's titles, and what is lent with them (SCOPE 5).
pub mod Titles
pub mod Lent
