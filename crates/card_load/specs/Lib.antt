-- A card, and what loading it gives (SCOPE 3.1 and 3.8 to 3.14).
pub mod Card
pub mod Load
