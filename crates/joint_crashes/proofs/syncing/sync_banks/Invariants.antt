use Rattle.std.proofs.Common.{take}
use Rattle.joint_crashes.specs.Syncs.{IsBankIn, SyncsEach}
use Rattle.joint_crashes.proofs.syncing.sync_banks.Given as goal

abbrev pub invariant-loop-number : goal.invariant-loop-number
invariant-loop-number g l =
    SyncsEach g.D.Disk.tells g.D.Disk.clock g.D.Disk.image_at g.D.Disk.faults g.D.Disk.settled
    (IsBankIn (take l.number-index l.numbers)) l.fn.vault l.vault l.outcome
