-- What the workers' lines of a round come to.
pub use Rattle.tx_script.specs.Run.{TryRefusal, InConflict, NoNumber, NoRoom, NoSlot}
pub use Rattle.shared_rounds.specs.Refusals.{AreWordsTold, cause_of, causes_of, causes_of_lines}
pub use Rattle.tx_script.specs.Tries.{AllCome, AreConflicts, ComesTo, EndsWith, is_conflict}
pub use Rattle.shared_rounds.specs.Shares.{AreOrdered, IsShare, RunsShares, Share, entries_in, logged_in}
