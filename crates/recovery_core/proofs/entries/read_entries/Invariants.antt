use Rattle.std.proofs.Common.{◌≡◌}
use Rattle.recovery_core.specs.EntriesRun.{AreLastOfSome}
use Rattle.joint_crashes.specs.Images.{Images}
use Rattle.joint_crashes.specs.JointCrash.{parts_of}
use Rattle.joint_crashes.specs.Resting.{AreTold}
use Rattle.joint_crashes.specs.VaultReads.{VaultOnlyReads, AreQuiet}
use Rattle.recovery_core.proofs.EntriesFiles.{CountedSoFar}
use Rattle.wire_form.specs.declared.savepoint.Savepoint.{Savepoint}
use Rattle.recovery_core.proofs.entries.read_entries.Given as goal

-- the log files below the number were read, and their entries that count taken in
abbrev pub invariant-loop-bank : goal.invariant-loop-bank
invariant-loop-bank g l = record {
  reads : VaultOnlyReads g.D.Disk.tells g.D.Disk.clock g.D.Disk.image_at g.D.Disk.faults l.fn.vault l.vault;
  quiet : AreQuiet g.D.Disk.faults l.fn.vault l.vault;
  so_far : (found : Images) → AreTold g.D.Disk.tells (parts_of l.fn.vault) found → (p : Savepoint) → p.lengths
      ≡ l.lengths
      → CountedSoFar l.decls p found.bank l.from l.to l.bank l.last;
  some : AreLastOfSome l.decls l.from l.to l.last;
}
