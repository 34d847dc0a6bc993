pub mod Mapped
pub mod SoFar
