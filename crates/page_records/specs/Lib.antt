pub mod Reads
pub mod Locks
pub mod Attempts
pub mod Ends
