pub mod Lines
pub mod MadeLines
pub mod MadeScript
pub mod WorkedRows
