pub mod SmallestLaws
pub mod HeadLaws
pub mod CoverLaws
pub mod StoredLaws
pub mod OverLaws
pub mod RowsLaws
pub mod BelowReadLaws
