pub mod DeclLaws
mod SpanLaws
mod PageLaws
pub mod LookLaws
pub mod ReadLaws
pub mod WalkLaws
mod LoadedLaws
mod ReachLaws
mod RecordLaws
mod FindLaws
mod CopyLaws
mod InstallLaws
mod MakeLaws
