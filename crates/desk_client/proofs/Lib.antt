-- The laws that belong to no one function.
pub mod Rule
pub mod Laws
pub mod SlotBySlot
pub mod Kept
