-- Names of the crates below that those above speak of.
pub use Rattle.tx_runner.specs.Below.{IsOver, MayWrite}
pub use Rattle.tx_runner.specs.LineEnds.{HasCommittedLine}
pub use Rattle.tx_runner.specs.LineWrites.{rising_counts}
pub use Rattle.tx_runner.specs.Lines.{IsOfKey, IsOnTree, IsTreeScan}
pub use Rattle.tx_runner.specs.OwnThreads.{over_done, seat_over}
pub use Rattle.tx_runner.specs.Tries.{blame_at, blame_of, blames_of, drawn_for, lost_to, why_of, whys_of}
pub use Rattle.tx_runner.specs.Tries.{FillsSet, HasTriedFor, IsAtSpot, IsChangedAt, IsClash, IsConflicting, IsKeyOf}
pub use Rattle.tx_runner.specs.Tries.{IsLeafWord, IsLockedFor, IsLostAt, IsMetOf, IsPlaced, IsRecordWord, IsWayWord}
pub use Rattle.tx_runner.specs.Tries.{IsWordAt, IsWrittenBy, Lost, OfLeaf, OfRecord, OfSlot, OfWay, Spot, ToClock}
pub use Rattle.tx_runner.specs.Tries.{ToOther, ToSet, ToSlots, Writes, WritesTree}
pub use Rattle.tx_runner.specs.Epochs.{HasAdvanced, HasMetAll, HasSeenEpoch, IsLastEpoch, mets_of}
