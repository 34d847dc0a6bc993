-- A settling where no entry counts leaves the snapshot that was read.
use Rattle.std.proofs.Common.{Option, Some, None, inl}
use Rattle.log_writer.specs.declared.saved.Saved.{Saved}
use Rattle.recovery_core.specs.declared.recovered.Recovered.{Recovered}
use Rattle.checkpoints.specs.declared.without_entries.Settled.{Settled}
use Rattle.checkpoints.specs.SettlesInto.{StaysAsRead, Follows}

-- that is one of the two ways to settle
pub stays_as_read : (r : Recovered) (s : Settled) (o : Option Saved) → StaysAsRead r s → Follows r s o
stays_as_read r s None is = is
stays_as_read r s (Some p) is = inl is
