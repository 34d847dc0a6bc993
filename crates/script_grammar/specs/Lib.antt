pub mod Script
pub mod Words
pub mod Reading
pub mod Faults
pub mod Lines
pub mod FlatOps
pub mod Front
pub mod ReplyRoom
