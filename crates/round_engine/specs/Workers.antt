-- What the workers' lines of a round leave of their logs and log files.
pub use Rattle.shared_rounds.specs.Workers.{LeavesOut, LeftBy, RunsOver, RunsWorkers}
pub use Rattle.shared_rounds.specs.Workers.{idle_if_not, idled, is_busy, refusal_of, refused_as}
