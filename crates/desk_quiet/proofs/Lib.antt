-- What holds when things go quiet.
pub mod Count
pub mod Full
pub mod Writer
pub mod Fate
pub mod Known
pub mod Quiet
