pub mod Below
pub mod Rows
pub mod InARow
pub mod Cells
pub mod Gates
pub mod GateLaws
