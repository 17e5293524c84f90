-- The laws that belong to no one function.
pub mod Bits
pub mod Zeros
pub mod SlotLaws
pub mod SetLaws
pub mod CodeLaws
pub mod RoundLaws
pub mod NextLaws
pub mod Scan
pub mod Turned
pub mod TableLaws
pub mod PlaceLaws
pub mod Examples
