-- The catalogue check (SCOPE 4.14).
pub mod Catalogue
