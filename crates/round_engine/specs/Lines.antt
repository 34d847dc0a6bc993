-- What comes of the workers' lines of a round.
pub use Rattle.shared_rounds.specs.Lines.{LinesCome, standing}
