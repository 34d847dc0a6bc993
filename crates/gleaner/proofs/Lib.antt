pub mod Appending
pub mod HalfLaws
pub mod InTurn
pub mod Placed
pub mod Exits
pub mod MappedFile
