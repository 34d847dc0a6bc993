-- Names of the crates below that those above speak of.
pub use Rattle.engine_seats.specs.Clock.{met_at}
pub use Rattle.resident_pages.specs.Fills.{AreClaimed}
pub use Rattle.worker_cells.specs.Cells.{RefusesLine}
pub use Rattle.worker_cells.specs.Gates.{AreAllTold, Before, GateCall, IsTold, calls_for, calls_in, calls_of, is_run}
pub use Rattle.worker_cells.specs.GateLaws.{all_told_push, calls_both, told_left, told_none, told_ran}
pub use Rattle.worker_cells.specs.Rows.{unrun}
pub use Rattle.worker_cells.specs.declared.cell.LogEnd.{LogEnd}
pub use Rattle.worker_cells.specs.declared.gate_calls.GateCalls.{GateCalls}
pub use Rattle.worker_cells.specs.Below.{HasAdvanced, HasMetAll, HasSeenEpoch, IsLastEpoch, mets_of}
