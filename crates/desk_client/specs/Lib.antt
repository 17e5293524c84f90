-- A client record.
pub mod Client
pub mod Setters
pub mod Queue
pub mod Duties
