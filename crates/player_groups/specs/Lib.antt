-- The groups that a group move runs over (SCOPE 12.1).
pub mod Family
