-- The laws that belong to no one function.
pub mod Runs
pub mod Starts
pub mod Checked
pub mod BadTitles
