pub mod Handing
pub mod CutPages
pub mod Cutting
pub mod Ending
pub mod Counting
pub mod Marking
