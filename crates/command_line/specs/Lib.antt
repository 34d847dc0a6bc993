pub mod Commands
pub mod Options
pub mod Plain
pub mod Words
