-- What the logs have of the commits of a run.
pub use Rattle.shared_rounds.specs.Changes.{AreLogged}
