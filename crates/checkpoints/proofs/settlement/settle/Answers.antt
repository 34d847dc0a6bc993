use Rattle.std.proofs.lemmas.Result.{IfOk-weaker}
use Rattle.joint_crashes.specs.Images.{Images}
use Rattle.recovery_core.specs.Recovered.{Recovers}
use Rattle.recovery_core.specs.SnapshotsKept.{KeepsSnapshots}
use Rattle.checkpoints.specs.Settled.{SaysSettled}
use Rattle.checkpoints.specs.SettlesInto.{SettlesInto}
use Rattle.checkpoints.proofs.SnapshotsSettled.{settled_snapshots}
use Rattle.checkpoints.proofs.settlement.settle.Goals as goal

pub returns-in-None-clause-snapshots : goal.returns-in-None-clause-snapshots
returns-in-None-clause-snapshots g c = IfOk-weaker c.settle_without_entries.result
    (λ s. SettlesInto g.D.Disk.tells g.D.Disk.clock g.D.Disk.image_at c.args.recovered c.args.decls.now
    c.args.vault.now c.settle_without_entries.new.vault s)
    (λ s. (found now : Images) (is : Recovers found c.args.recovered) (says : SaysSettled now s)
    → KeepsSnapshots is.reading says.reading c.args.recovered.epoch c.args.recovered.state)
    (λ s is. settled_snapshots c.args.recovered s c.requires.up is) c.settle_without_entries.ensures.settles

pub returns-in-Some-clause-snapshots : goal.returns-in-Some-clause-snapshots
returns-in-Some-clause-snapshots g c = IfOk-weaker c.settle_entries.result
    (λ s. SettlesInto g.D.Disk.tells g.D.Disk.clock g.D.Disk.image_at c.args.recovered c.args.decls.now
    c.args.vault.now c.settle_entries.new.vault s)
    (λ s. (found now : Images) (is : Recovers found c.args.recovered) (says : SaysSettled now s)
    → KeepsSnapshots is.reading says.reading c.args.recovered.epoch c.args.recovered.state)
    (λ s is. settled_snapshots c.args.recovered s c.requires.up is) c.settle_entries.ensures.settles
