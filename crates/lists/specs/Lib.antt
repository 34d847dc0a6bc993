pub mod Fronts
pub mod Each
pub mod Elements
