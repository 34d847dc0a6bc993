pub mod Output
pub mod Printed
