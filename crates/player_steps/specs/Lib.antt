-- Single steps along tracks, groups and segments (SCOPE 15).
pub mod Stepping
