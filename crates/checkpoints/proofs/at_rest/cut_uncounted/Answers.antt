use Rattle.std.proofs.Common.{sym, ap}
use Rattle.std.proofs.lemmas.Result.{on_ok_weaker}
use Rattle.log_writer.specs.Cuts.{whole_bank}
use Rattle.log_writer.specs.Vault.{disk_in}
use Rattle.outside.specs.declared.device.Device.TheVariants.{Bank}
use Rattle.joint_crashes.specs.JointCrash.{parts_of}
use Rattle.joint_crashes.specs.Cutting.{FaultsStand}
use Rattle.joint_crashes.specs.VaultReads.{AreQuiet, some_of, quiet_of}
use Rattle.checkpoints.specs.Files.{has_files, still_files, listed_bank}
use Rattle.joint_crashes.specs.Banks.{all_below}
use Rattle.checkpoints.proofs.Emptied.{emptied_all}
use Rattle.checkpoints.proofs.FilesCut.{files_cut}
use Rattle.checkpoints.proofs.at_rest.cut_uncounted.Goals as goal

pub cut_banks-requires-clause-banks : goal.cut_banks-requires-clause-banks
cut_banks-requires-clause-banks g c n has = whole_bank c.requires.whole n (all_below n has)

pub returns-clause-crashes : goal.returns-clause-crashes
returns-clause-crashes g c found from epoch state p rest none told since is no_entry newest nothing =
    (files_cut g.met.D.Disk.reads c.args.save.now.newest p (parts_of c.args.vault.now)
    (parts_of c.cut_banks.new.vault) c.cut_banks.result (has_files c.args.vault.now c.requires.whole)
    (still_files c.args.vault.now c.cut_banks.new.vault c.requires.whole c.cut_banks.ensures.there)
    (listed_bank (c.cut_banks.ensures.whole c.requires.whole)) rest none told since is no_entry newest nothing
    (c.requires.stored found.save told.save).names c.cut_banks.ensures.others.0
    (rw c.sequence-sequence.ensures.newest at c.cut_banks.ensures.cut)).0

pub returns-clause-goes_on : goal.returns-clause-goes_on
returns-clause-goes_on g c found from epoch state p rest none told since is no_entry newest nothing =
    (files_cut g.met.D.Disk.reads c.args.save.now.newest p (parts_of c.args.vault.now)
    (parts_of c.cut_banks.new.vault) c.cut_banks.result (has_files c.args.vault.now c.requires.whole)
    (still_files c.args.vault.now c.cut_banks.new.vault c.requires.whole c.cut_banks.ensures.there)
    (listed_bank (c.cut_banks.ensures.whole c.requires.whole)) rest none told since is no_entry newest nothing
    (c.requires.stored found.save told.save).names c.cut_banks.ensures.others.0
    (rw c.sequence-sequence.ensures.newest at c.cut_banks.ensures.cut)).1

pub returns-clause-quiet : goal.returns-clause-quiet
returns-clause-quiet g c =
    on_ok_weaker {P = FaultsStand g.D.Disk.faults c.args.vault.now c.cut_banks.new.vault}
    {Q = AreQuiet g.D.Disk.faults c.args.vault.now c.cut_banks.new.vault} c.cut_banks.result
    (λ stand. quiet_of c.args.vault.now c.cut_banks.new.vault
    (ap g.D.Disk.faults c.cut_banks.ensures.others.0) (ap g.D.Disk.faults c.cut_banks.ensures.others.1) stand)
    c.cut_banks.ensures.quiet

pub returns-clause-device : goal.returns-clause-device
returns-clause-device g c n is =
    let e = c.cut_banks.ensures in
    let there = whole_bank c.requires.whole n (all_below n (e.among n is)) in
    let was = some_of (disk_in c.args.vault.now (Bank n)) there in
    let now = some_of (disk_in c.cut_banks.new.vault (Bank n)) (e.there n there) in
    (was.0, now.0, was.1, now.1, e.device n is was.0 now.0 was.1 now.1)

pub cut_banks-requires-clause-newest : goal.cut_banks-requires-clause-newest
cut_banks-requires-clause-newest g c =
    (c.args.save.now.newest, c.requires.stored, sym c.sequence-sequence.ensures.newest)

pub returns-clause-records : goal.returns-clause-records
returns-clause-records g c = rw c.sequence-sequence.ensures.newest at c.cut_banks.ensures.records

pub returns-clause-emptied : goal.returns-clause-emptied
returns-clause-emptied g c tell = emptied_all g.D.Disk.tells c.args.vault.now c.cut_banks.new.vault c.cut_banks.result
    (c.cut_banks.ensures.whole c.requires.whole) c.cut_banks.ensures.emptied tell
