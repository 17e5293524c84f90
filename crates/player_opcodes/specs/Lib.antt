-- The opcodes of the control point (SCOPE 9.1 to 9.3).
pub mod Opcodes
