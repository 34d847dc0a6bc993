pub mod LogMoves
pub mod InTurn
pub mod Lengths
pub mod Saving
pub mod Turns
