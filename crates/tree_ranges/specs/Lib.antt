pub mod Rows
pub mod Causes
pub mod Leaves
pub mod Going
