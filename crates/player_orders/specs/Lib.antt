-- The playing orders (SCOPE 11.1 to 11.4).
pub mod Order
pub mod Keys
