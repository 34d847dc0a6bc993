pub mod MakeLaws
pub mod SnapLaws
pub mod PutLaws
pub mod StoredLaws
pub mod PageLaws
pub mod BringLaws
pub mod RoundLaws
pub mod LeafLaws
