use Rattle.std.proofs.Common.{◌+◌, Some}
use Rattle.std.proofs.lemmas.Result.{on_ok_weaker}
use Rattle.log_writer.specs.Points.{point_of, sequence_of}
use Rattle.log_writer.specs.Counted.{nothing_counted}
use Rattle.log_writer.specs.Cuts.{whole_bank}
use Rattle.joint_crashes.specs.JointCrash.{parts_of}
use Rattle.checkpoints.specs.Files.{has_files, still_files, listed_bank}
use Rattle.joint_crashes.specs.Banks.{all_below}
use Rattle.checkpoints.specs.StoreAnswers.{store_answers}
use Rattle.checkpoints.proofs.Emptied.{stands_stored}
use Rattle.checkpoints.proofs.LengthsStored.{lengths_stored}
use Rattle.checkpoints.proofs.at_rest.settle_lengths.Goals as goal

pub store_and_cut-requires-clause-banks : goal.store_and_cut-requires-clause-banks
store_and_cut-requires-clause-banks g c n has = whole_bank c.requires.can.whole n (all_below n has)

pub returns-clause-crashes : goal.returns-clause-crashes
returns-clause-crashes g c found from epoch state p rest none told since is no_entry newest same =
    (lengths_stored g.met.D.Disk.reads c.args.save.now.newest c.args.saved p (parts_of c.args.vault.now)
    (parts_of c.store_and_cut.new.vault) c.store_and_cut.result (has_files c.args.vault.now c.requires.can.whole)
    (still_files c.args.vault.now c.store_and_cut.new.vault c.requires.can.whole c.store_and_cut.ensures.there)
    (listed_bank (c.store_and_cut.ensures.whole c.requires.can.whole)) rest none told since is no_entry newest same
    (c.requires.can.stored found.save told.save).names (c.requires.nothing (sequence_of c.args.save.now.newest + 1))
    c.store_and_cut.ensures.crashes).0

pub returns-clause-goes_on : goal.returns-clause-goes_on
returns-clause-goes_on g c found from epoch state p rest none told since is no_entry newest same =
    (lengths_stored g.met.D.Disk.reads c.args.save.now.newest c.args.saved p (parts_of c.args.vault.now)
    (parts_of c.store_and_cut.new.vault) c.store_and_cut.result (has_files c.args.vault.now c.requires.can.whole)
    (still_files c.args.vault.now c.store_and_cut.new.vault c.requires.can.whole c.store_and_cut.ensures.there)
    (listed_bank (c.store_and_cut.ensures.whole c.requires.can.whole)) rest none told since is no_entry newest same
    (c.requires.can.stored found.save told.save).names (c.requires.nothing (sequence_of c.args.save.now.newest + 1))
    c.store_and_cut.ensures.crashes).1

pub returns-clause-answers : goal.returns-clause-answers
returns-clause-answers g c =
    let e = c.store_and_cut.ensures in
    store_answers g.D.Disk.faults (sequence_of c.args.save.now.newest) c.args.vault.now c.store_and_cut.new.vault
    c.store_and_cut.result e.save_failed e.bank_failed e.limit e.last e.never_down e.quiet

pub returns-clause-newest : goal.returns-clause-newest
returns-clause-newest g c = on_ok_weaker c.store_and_cut.result (λ s. s.0) c.store_and_cut.ensures.stores

pub returns-clause-stands : goal.returns-clause-stands
returns-clause-stands g c =
    let e = c.store_and_cut.ensures in
    stands_stored g.D.Disk.tells g.D.Disk.clock g.D.Disk.image_at c.store_and_cut.new.save c.args.vault.now
    c.store_and_cut.new.vault (Some (point_of (sequence_of c.args.save.now.newest + 1) c.args.saved))
    c.store_and_cut.result (e.whole c.requires.can.whole) e.stores e.emptied e.told e.snaps

pub returns-clause-leaves : goal.returns-clause-leaves
returns-clause-leaves g c = record {
  whole = c.store_and_cut.ensures.whole c.requires.can.whole;
  records = c.store_and_cut.ensures.records;
}

pub store_and_cut-requires-clause-counted : goal.store_and_cut-requires-clause-counted
store_and_cut-requires-clause-counted g c always n bank there =
    nothing_counted c.args.saved.lengths (c.requires.nothing 1) n bank
