pub mod Values
pub mod WrittenDigits
