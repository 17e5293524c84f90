-- The five moves along a list, and Goto as First or Last and then steps (SCOPE 10.6, 11.5, 11.6).
pub mod Signed
pub mod Steps
pub mod Places
