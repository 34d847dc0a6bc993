pub mod Copies
pub mod Installs
pub mod Parts
