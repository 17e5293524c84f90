-- The manual's Goto: First or Last, and then single steps, as many as are allowed (SCOPE 15).
pub mod Made
pub mod Places
