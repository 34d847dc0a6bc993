use Rattle.std.proofs.Common.{◌≡◌, ◌+◌, ◌++◌, Err, length, refl, sym, ap, subst, ◌∙◌}
use Rattle.std.specs.Prelude.{is_some, replicate}
use Rattle.std.proofs.lemmas.List.{length-append}
use Rattle.lists.specs.declared.memory.OrMemory.TheVariants.{Fault}
use Rattle.outside.specs.declared.device.Device.TheVariants.{Save, Bank}
use Rattle.log_writer.specs.declared.vault.Vault.{Vault}
use Rattle.log_writer.specs.Counted.{nothing_counted}
use Rattle.log_writer.specs.Cuts.{whole_bank}
use Rattle.outside.specs.Fronts.{AllBegin}
use Rattle.log_writer.specs.Vault.{IsWhole}
use Rattle.log_writer.specs.Points.{sequence_of}
use Rattle.snapshot_store.specs.Store.{HoldsPages, bytes_of_pages}
use Rattle.checkpoints.specs.Files.{listed_bank}
use Rattle.joint_crashes.specs.Banks.{all_below}
use Rattle.checkpoints.specs.FreshLaws.{zero_at}
use Rattle.joint_crashes.specs.JointCrash.{parts_of}
use Rattle.joint_crashes.specs.VaultReads.{quiet_of}
use Rattle.checkpoints.specs.SettlesInto.{composed_saved}
use Rattle.checkpoints.specs.StoreAnswers.{IsWriteRefused, store_answers, store_written}
use Rattle.checkpoints.specs.Written.{LeavesOldOrNext, HasWritten}
use Rattle.checkpoints.proofs.OldOrNext.{left_safe, stored_safe}
use Rattle.joint_crashes.specs.RecordsAdded.{nothing_added, records_from}
use Rattle.checkpoints.proofs.writing.write_snapshot.Goals as goal

-- a call of the snapshots leaves the log files
still_whole : {D : Type 0} {vault : Vault D} (snaps : D) → IsWhole vault → IsWhole (record vault { snaps = snaps })
still_whole snaps whole = record { even = whole.even; odd = whole.odd }

pub store_and_cut-requires-clause-banks : goal.store_and_cut-requires-clause-banks
store_and_cut-requires-clause-banks g c n has = whole_bank c.requires.can.whole n (all_below n has)

pub returns-in-Err-Memory-clause-crashes : goal.returns-in-Err-Memory-clause-crashes
returns-in-Err-Memory-clause-crashes g c found from rest is =
    left_safe g.met.D.Disk.reads c.args.save.now.newest _ _ (length c.args.store.now.pages) rest is
    (c.append_durably.ensures.runs rest.pages is.within rest.snaps)

pub returns-in-Err-Fault-clause-crashes : goal.returns-in-Err-Fault-clause-crashes
returns-in-Err-Fault-clause-crashes g c found from rest is =
    left_safe g.met.D.Disk.reads c.args.save.now.newest _ _ (length c.args.store.now.pages) rest is
    (c.append_durably.ensures.runs rest.pages is.within rest.snaps)

pub returns-in-Ok-store_and_cut-clause-crashes : goal.returns-in-Ok-store_and_cut-clause-crashes
returns-in-Ok-store_and_cut-clause-crashes g c found from rest is =
    let more = c.args.store.now.pages ++ c.args.pages.now in
    let newest = c.args.save.now.newest in
    let size : c.count-count.result ≡ length c.args.store.now.pages + length c.args.pages.now =
    c.count-count.ensures.count ∙ ap length c.in-Ok.ensures.pages
    ∙ length-append c.args.store.now.pages c.args.pages.now in
    subst (λ n. LeavesOldOrNext g.D.Disk.clock g.D.Disk.image_at g.D.Disk.tells newest
    (composed_saved c.args.epoch n) (length c.args.store.now.pages) (bytes_of_pages more)
    (parts_of c.args.vault.now) (parts_of c.store_and_cut.new.vault)) size
    (λ found from rest is. (stored_safe g.met.D.Disk.reads newest (composed_saved c.args.epoch c.count-count.result)
    (bytes_of_pages more) (length c.args.store.now.pages) (parts_of c.store_and_cut.new.vault) c.store_and_cut.result
    (listed_bank (c.store_and_cut.ensures.whole (still_whole c.append_durably.new.disk c.requires.can.whole))) rest is
    (λ n. zero_at n 16) (c.append_durably.ensures.runs rest.pages is.within rest.snaps)
    (subst (λ l. AllBegin (g.D.Disk.image_at c.append_durably.new.disk (g.D.Disk.clock c.append_durably.new.disk))
    (bytes_of_pages l)) c.in-Ok.ensures.pages (c.in-Ok.ensures.durable found.snaps is.told.snaps))
    c.store_and_cut.ensures.crashes).0) found from rest is

pub returns-in-Err-clause-crashes : goal.returns-in-Err-clause-crashes
returns-in-Err-clause-crashes g c found from rest is =
    let more = c.args.store.now.pages ++ c.args.pages.now in
    let newest = c.args.save.now.newest in
    let size : c.count-count.result ≡ length c.args.store.now.pages + length c.args.pages.now =
    c.count-count.ensures.count ∙ ap length c.in-Ok.ensures.pages
    ∙ length-append c.args.store.now.pages c.args.pages.now in
    subst (λ n. LeavesOldOrNext g.D.Disk.clock g.D.Disk.image_at g.D.Disk.tells newest
    (composed_saved c.args.epoch n) (length c.args.store.now.pages) (bytes_of_pages more)
    (parts_of c.args.vault.now) (parts_of c.store_and_cut.new.vault)) size
    (λ found from rest is. (stored_safe g.met.D.Disk.reads newest (composed_saved c.args.epoch c.count-count.result)
    (bytes_of_pages more) (length c.args.store.now.pages) (parts_of c.store_and_cut.new.vault) c.store_and_cut.result
    (listed_bank (c.store_and_cut.ensures.whole (still_whole c.append_durably.new.disk c.requires.can.whole))) rest is
    (λ n. zero_at n 16) (c.append_durably.ensures.runs rest.pages is.within rest.snaps)
    (subst (λ l. AllBegin (g.D.Disk.image_at c.append_durably.new.disk (g.D.Disk.clock c.append_durably.new.disk))
    (bytes_of_pages l)) c.in-Ok.ensures.pages (c.in-Ok.ensures.durable found.snaps is.told.snaps))
    c.store_and_cut.ensures.crashes).0) found from rest is

pub returns-in-Ok-store_and_cut-clause-goes_on : goal.returns-in-Ok-store_and_cut-clause-goes_on
returns-in-Ok-store_and_cut-clause-goes_on g c =
    let more = c.args.store.now.pages ++ c.args.pages.now in
    let newest = c.args.save.now.newest in
    let size : c.count-count.result ≡ length c.args.store.now.pages + length c.args.pages.now =
    c.count-count.ensures.count ∙ ap length c.in-Ok.ensures.pages
    ∙ length-append c.args.store.now.pages c.args.pages.now in
    subst (λ n. HasWritten g.D.Disk.clock g.D.Disk.image_at g.D.Disk.tells newest
    (composed_saved c.args.epoch n) (length c.args.store.now.pages) (bytes_of_pages more)
    (parts_of c.args.vault.now) (parts_of c.store_and_cut.new.vault)) size
    (λ found from rest is. rw c.in-Ok-store_and_cut.is at (stored_safe g.met.D.Disk.reads newest
    (composed_saved c.args.epoch c.count-count.result)
    (bytes_of_pages more) (length c.args.store.now.pages) (parts_of c.store_and_cut.new.vault) c.store_and_cut.result
    (listed_bank (c.store_and_cut.ensures.whole (still_whole c.append_durably.new.disk c.requires.can.whole))) rest is
    (λ n. zero_at n 16) (c.append_durably.ensures.runs rest.pages is.within rest.snaps)
    (subst (λ l. AllBegin (g.D.Disk.image_at c.append_durably.new.disk (g.D.Disk.clock c.append_durably.new.disk))
    (bytes_of_pages l)) c.in-Ok.ensures.pages (c.in-Ok.ensures.durable found.snaps is.told.snaps))
    c.store_and_cut.ensures.crashes).1)

-- ---- the pages, and the devices behind a store

pub returns-in-Ok-store_and_cut-clause-durable : goal.returns-in-Ok-store_and_cut-clause-durable
returns-in-Ok-store_and_cut-clause-durable g c = record {
  sound = c.in-Ok.ensures.sound;
  holds = subst (λ d. HoldsPages g.D.Disk.tells d c.append_durably.new.self.pages) (sym c.store_and_cut.ensures.snaps)
      c.in-Ok.ensures.holds;
  durable = λ bytes told image left. c.in-Ok.ensures.durable bytes told image
      (subst (λ d. g.D.Disk.image_at d (g.D.Disk.clock d) image) c.store_and_cut.ensures.snaps left);
}

pub returns-in-Ok-store_and_cut-clause-stands : goal.returns-in-Ok-store_and_cut-clause-stands
returns-in-Ok-store_and_cut-clause-stands g c =
    let e = c.in-Ok-store_and_cut.ensures in
    record {
      up = e.stores.1;
      stored = e.stores.2;
      emptied = λ tell n bank there. e.emptied (λ m b has at. tell m b at) n bank
          (listed_bank (c.store_and_cut.ensures.whole (still_whole c.append_durably.new.disk c.requires.can.whole)) n
          bank there) there;
      told = c.store_and_cut.ensures.told;
      told_snaps = ap (λ d. is_some (g.D.Disk.tells d)) c.store_and_cut.ensures.snaps ∙ c.append_durably.ensures.told;
    }

-- ---- what is answered

pub returns-in-Err-Memory-clause-answers : goal.returns-in-Err-Memory-clause-answers
returns-in-Err-Memory-clause-answers g c = record {
  save = refl;
  snaps = (c.in-Err-Memory.ensures.untouched (ap Err c.in-Err-Memory.field-0-is)).0;
  even = refl;
  odd = refl;
  ties = refl;
  cuts = refl;
}

pub returns-in-Err-Fault-clause-answers : goal.returns-in-Err-Fault-clause-answers
returns-in-Err-Fault-clause-answers g c = (
  c.args.vault.now.snaps,
  c.append_durably.new.disk,
  refl,
  refl,
  c.in-Err-Fault.ensures.device c.in-Err-Fault.field-0-0 (ap Err c.in-Err-Fault.field-0-is),
)

pub returns-in-Ok-store_and_cut-clause-answers : goal.returns-in-Ok-store_and_cut-clause-answers
returns-in-Ok-store_and_cut-clause-answers g c =
    let faults = g.D.Disk.faults in
    let quiet = c.in-Ok-store_and_cut.ensures.quiet in
    quiet_of c.args.vault.now c.store_and_cut.new.vault (quiet Save _ _ refl refl)
    (ap faults c.store_and_cut.ensures.snaps ∙ c.in-Ok.ensures.quiet)
    (λ n was now before after. quiet (Bank n) was now before after)

pub returns-in-Err-clause-answers : goal.returns-in-Err-clause-answers
returns-in-Err-clause-answers g c =
    let e = c.in-Err.ensures in
    let why = store_answers g.D.Disk.faults (sequence_of c.args.save.now.newest)
    (record c.args.vault.now { snaps = c.append_durably.new.disk }) c.store_and_cut.new.vault (Err c.in-Err.fault)
    e.save_failed e.bank_failed e.limit e.last e.never_down e.quiet in
    subst (λ f. IsWriteRefused g.D.Disk.faults c.args.vault.now c.store_and_cut.new.vault (Fault f))
    (sym c.fault_of.ensures) (store_written g.D.Disk.faults (sequence_of c.args.save.now.newest) c.args.vault.now
    c.store_and_cut.new.vault c.append_durably.new.disk c.in-Err.fault c.requires.below why)

-- ---- what is left

pub returns-in-Err-Memory-clause-leaves : goal.returns-in-Err-Memory-clause-leaves
returns-in-Err-Memory-clause-leaves g c = record {
  whole = still_whole c.append_durably.new.disk c.requires.can.whole;
  records = nothing_added refl refl refl;
}

pub returns-in-Err-Fault-clause-leaves : goal.returns-in-Err-Fault-clause-leaves
returns-in-Err-Fault-clause-leaves g c = record {
  whole = still_whole c.append_durably.new.disk c.requires.can.whole;
  records = nothing_added refl refl refl;
}

pub returns-in-Ok-store_and_cut-clause-leaves : goal.returns-in-Ok-store_and_cut-clause-leaves
returns-in-Ok-store_and_cut-clause-leaves g c = record {
  whole = c.store_and_cut.ensures.whole (still_whole c.append_durably.new.disk c.requires.can.whole);
  records = records_from refl refl c.in-Ok-store_and_cut.ensures.records;
}

pub returns-in-Err-clause-leaves : goal.returns-in-Err-clause-leaves
returns-in-Err-clause-leaves g c = record {
  whole = c.store_and_cut.ensures.whole (still_whole c.append_durably.new.disk c.requires.can.whole);
  records = records_from refl refl c.in-Err.ensures.records;
}

pub store_and_cut-requires-clause-counted : goal.store_and_cut-requires-clause-counted
store_and_cut-requires-clause-counted g c always n bank there =
    nothing_counted (replicate 16 0) (λ k. zero_at k 16) n bank

-- ---- nothing is promised of what failed

pub returns-in-Err-Fault-clause-durable : goal.returns-in-Err-Fault-clause-durable
returns-in-Err-Fault-clause-durable g c = tt

pub returns-in-Err-Fault-clause-goes_on : goal.returns-in-Err-Fault-clause-goes_on
returns-in-Err-Fault-clause-goes_on g c = tt

pub returns-in-Err-Fault-clause-pages : goal.returns-in-Err-Fault-clause-pages
returns-in-Err-Fault-clause-pages g c = tt

pub returns-in-Err-Fault-clause-says : goal.returns-in-Err-Fault-clause-says
returns-in-Err-Fault-clause-says g c = tt

pub returns-in-Err-Fault-clause-stands : goal.returns-in-Err-Fault-clause-stands
returns-in-Err-Fault-clause-stands g c = tt

pub returns-in-Err-Memory-clause-durable : goal.returns-in-Err-Memory-clause-durable
returns-in-Err-Memory-clause-durable g c = tt

pub returns-in-Err-Memory-clause-goes_on : goal.returns-in-Err-Memory-clause-goes_on
returns-in-Err-Memory-clause-goes_on g c = tt

pub returns-in-Err-Memory-clause-pages : goal.returns-in-Err-Memory-clause-pages
returns-in-Err-Memory-clause-pages g c = tt

pub returns-in-Err-Memory-clause-says : goal.returns-in-Err-Memory-clause-says
returns-in-Err-Memory-clause-says g c = tt

pub returns-in-Err-Memory-clause-stands : goal.returns-in-Err-Memory-clause-stands
returns-in-Err-Memory-clause-stands g c = tt

pub returns-in-Err-clause-durable : goal.returns-in-Err-clause-durable
returns-in-Err-clause-durable g c = tt

pub returns-in-Err-clause-goes_on : goal.returns-in-Err-clause-goes_on
returns-in-Err-clause-goes_on g c = tt

pub returns-in-Err-clause-pages : goal.returns-in-Err-clause-pages
returns-in-Err-clause-pages g c = tt

pub returns-in-Err-clause-says : goal.returns-in-Err-clause-says
returns-in-Err-clause-says g c = tt

pub returns-in-Err-clause-stands : goal.returns-in-Err-clause-stands
returns-in-Err-clause-stands g c = tt
