pub mod Glean
pub mod GleanLaws
pub mod Halves
pub mod GleanLeaves
