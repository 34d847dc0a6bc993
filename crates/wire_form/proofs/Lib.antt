pub mod ByteLemmas
pub mod ItemLemmas
pub mod PageLemmas
pub mod CatalogueLemmas
pub mod LineLemmas
pub mod SavepointLemmas
pub mod FieldLemmas
pub mod Worked
