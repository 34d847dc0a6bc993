pub mod Reduced
pub mod Overlay
pub mod Latest
pub mod Gathered
pub mod GatheredLaws
