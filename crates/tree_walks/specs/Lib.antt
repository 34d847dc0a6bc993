pub mod Walks
pub mod Ways
pub mod Leaves
pub mod Steps
pub mod Finding
pub mod Finds
pub mod Snapshots
