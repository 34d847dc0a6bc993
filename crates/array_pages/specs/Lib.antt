pub mod Spans
pub mod Snapshots
pub mod Walks
pub mod Finding
pub mod Making
pub mod Steps
