pub mod Brief
pub mod Fits
