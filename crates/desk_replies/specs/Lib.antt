-- What the contracts name.
pub mod Replies
