-- Names of the crates below that those above speak of.
pub use Rattle.page_commit.specs.Live.{IsOver}
pub use Rattle.page_commit.specs.Turning.{MayWrite}
