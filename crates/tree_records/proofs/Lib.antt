pub mod Seeing
pub mod Values
pub mod HeldLoads
