pub mod Sums
pub mod Changes
pub mod Others
pub mod Longer
pub mod ByNumber
