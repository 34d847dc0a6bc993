use Rattle.std.proofs.Common.{◌≡◌, ◌+◌, ◌<◌, None, Err, List, map, refl, sym, ap, subst, ◌∙◌}
use Rattle.std.proofs.lemmas.Result.{err_from_is_err_and}
use Rattle.std.specs.FinMap.{get}
use Rattle.serial_model.specs.Keys.{id_of}
use Rattle.serial_model.specs.declared.decl.Decl.{Decl}
use Rattle.wire_form.specs.Items.{Rises}
use Rattle.log_writer.specs.declared.saved.Saved.{Saved}
use Rattle.snapshot_store.specs.Content.{words_of}
use Rattle.recovery_core.specs.Catalogues.{newest_epoch}
use Rattle.recovery_core.specs.EntriesRun.{AllMayCount}
use Rattle.recovery_core.specs.LogEntries.{AreCounted}
use Rattle.recovery_core.specs.Recoverable.{value_over}
use Rattle.joint_crashes.specs.VaultReads.{told_read, holds_read}
use Rattle.recovery_core.specs.ReadsDevices.{devices_then}
use Rattle.recovery_core.proofs.Exits.{handed_on, not_err, reads_forgotten, reads_handed_on, reads_well}
use Rattle.recovery_core.proofs.Recovering.{says_some, reads_pages, ids_rise, damaged_snaps, damaged_file}
use Rattle.recovery_core.proofs.Recovering.{saved_recovers, before_snaps, before_file}
use Rattle.recovery_core.proofs.recovery.recover_saved.Goals as goal

pub returns-in_err-snapshot-clause-damaged : goal.returns-in_err-snapshot-clause-damaged
returns-in_err-snapshot-clause-damaged g c device at same found told names =
    let p = err_from_is_err_and c.from_residual.result c.from_residual.ensures.1 in
    let point = says_some c.args.save.newest c.args.saved c.requires.says in
    let broken = c.in_err-snapshot.ensures.damaged device at (handed_on _ _ _ p.0 p.1 p.2 same) in
    damaged_snaps found c.args.save.newest point.0 device at point.1 broken.0 names
    (broken.1 found.snaps told.snaps point.0 point.2)

pub returns-in_err-snapshot-clause-before : goal.returns-in_err-snapshot-clause-before
returns-in_err-snapshot-clause-before g c device same found told names =
    let p = err_from_is_err_and c.from_residual.result c.from_residual.ensures.1 in
    before_snaps found c.args.save.newest device (c.in_err-snapshot.ensures.only device
    (handed_on _ _ _ p.0 p.1 p.2 same)) names

pub read_entries-requires-clause-rising : goal.read_entries-requires-clause-rising
read_entries-requires-clause-rising g c =
    let snapshot = c.in_ok-snapshot.ensures.snapshot in
    subst (λ (l : List Decl). Rises ◌<◌ (map id_of l)) (sym (c.as_slice-decls.ensures ∙ snapshot.1.decls_are))
    (ids_rise (words_of c.in_ok-snapshot.snapshot.store.pages)
    (c.args.saved.epoch + 1) None c.args.saved.catalogue snapshot.0 snapshot.1.chain)

pub returns-in_err-entries-clause-damaged : goal.returns-in_err-entries-clause-damaged
returns-in_err-entries-clause-damaged g c device at same found told names =
    let p = err_from_is_err_and c.from_residual-in_err-entries.result c.from_residual-in_err-entries.ensures.1 in
    let point = says_some c.args.save.newest c.args.saved c.requires.says in
    let snapshot = c.in_ok-snapshot.ensures.snapshot in
    let pages = reads_pages found.snaps c.args.saved point.0 snapshot.0 c.in_ok-snapshot.snapshot point.2 snapshot.1
    (c.in_ok-snapshot.ensures.pages found.snaps told.snaps) in
    let broken = c.in_err-entries.ensures.damaged device at (handed_on _ _ _ p.0 p.1 p.2 same) found
    (told_read c.load_snapshot.ensures.devices.reads c.requires.whole told) point.0
    (sym (ap (λ (x : Saved). x.lengths) point.2)) in
    damaged_file found c.args.save.newest point.0 device broken.0 at
    (words_of c.in_ok-snapshot.snapshot.store.pages) snapshot.0
    c.as_slice-decls.result.now point.1 broken.1 names pages (c.as_slice-decls.ensures ∙ snapshot.1.decls_are) broken.2

pub returns-in_err-entries-clause-before : goal.returns-in_err-entries-clause-before
returns-in_err-entries-clause-before g c device same found told names =
    let p = err_from_is_err_and c.from_residual-in_err-entries.result c.from_residual-in_err-entries.ensures.1 in
    let point = says_some c.args.save.newest c.args.saved c.requires.says in
    let snapshot = c.in_ok-snapshot.ensures.snapshot in
    let pages = reads_pages found.snaps c.args.saved point.0 snapshot.0 c.in_ok-snapshot.snapshot point.2 snapshot.1
    (c.in_ok-snapshot.ensures.pages found.snaps told.snaps) in
    let before = c.in_err-entries.ensures.before device (handed_on _ _ _ p.0 p.1 p.2 same) found
    (told_read c.load_snapshot.ensures.devices.reads c.requires.whole told) point.0
    (sym (ap (λ (x : Saved). x.lengths) point.2)) in
    before_file found c.args.save.newest point.0 device before.0
    (words_of c.in_ok-snapshot.snapshot.store.pages) snapshot.0
    c.as_slice-decls.result.now point.1 before.1 names pages (c.as_slice-decls.ensures ∙ snapshot.1.decls_are) before.2

pub returns-clause-recovers : goal.returns-clause-recovers
returns-clause-recovers g c found told names =
    let point = says_some c.args.save.newest c.args.saved c.requires.says in
    let snapshot = c.in_ok-snapshot.ensures.snapshot in
    let lasts = c.in_ok-entries.ensures.lasts found
    (told_read c.load_snapshot.ensures.devices.reads c.requires.whole told) point.0
    (sym (ap (λ (x : Saved). x.lengths) point.2)) in
    let counted = subst (λ (l : List Decl). AreCounted l point.0 found.bank lasts.0) c.as_slice-decls.ensures lasts.1
    in
    saved_recovers found _ c.args.save.newest point.0 c.args.saved c.in_ok-snapshot.snapshot
    c.in_ok-snapshot.snapshot.state snapshot.0 lasts.0
    point.1 point.2 names snapshot.1
    (c.in_ok-snapshot.ensures.pages found.snaps told.snaps) counted lasts.2 refl c.in_ok-put_over.ensures
    refl refl refl refl refl

pub returns-clause-holds : goal.returns-clause-holds
returns-clause-holds g c =
    holds_read c.in_ok-snapshot.snapshot.store.pages c.read_entries.ensures.devices.reads c.in_ok-snapshot.ensures.holds

pub returns-clause-up : goal.returns-clause-up
returns-clause-up g c =
    let snapshot = c.in_ok-snapshot.ensures.snapshot in
    let decls : c.as_slice-decls.result.now ≡ c.in_ok-snapshot.snapshot.decls = c.as_slice-decls.ensures in
    record {
      saved = c.requires.says;
      ranges = c.requires.saved;
      up = c.requires.up;
      sound = c.in_ok-snapshot.ensures.sound;
      epoch = refl;
      count = c.in_ok-snapshot.ensures.count;
      rising = subst (λ (l : List Decl). Rises ◌<◌ (map id_of l)) (sym snapshot.1.decls_are)
          (ids_rise (words_of c.in_ok-snapshot.snapshot.store.pages)
          (c.args.saved.epoch + 1) None c.args.saved.catalogue snapshot.0 snapshot.1.chain);
      snapshots = record {
        catalogues = snapshot.0;
        chain = snapshot.1.chain;
        stands = snapshot.1.stands;
        decls = snapshot.1.decls_are;
        marks = snapshot.1.marks_are;
        entries = subst (λ (l : List Decl). AllMayCount l (newest_epoch snapshot.0) c.args.saved.epoch
            c.in_ok-entries.entries) decls
            (subst (λ k. AllMayCount c.as_slice-decls.result.now k c.args.saved.epoch c.in_ok-entries.entries)
            snapshot.1.epoch_is c.in_ok-entries.ensures.may_count);
        state = λ key. c.in_ok-put_over.ensures key
            ∙ ap (value_over (get c.in_ok-entries.entries key)) (snapshot.1.state_is key);
      };
    }

-- ---- the devices

pub returns-in_err-snapshot-clause-devices : goal.returns-in_err-snapshot-clause-devices
returns-in_err-snapshot-clause-devices g c =
    let p = err_from_is_err_and c.from_residual.result c.from_residual.ensures.1 in
    reads_handed_on c.from_residual.result _ p.0 p.1 p.2 c.in_err-snapshot.ensures.devices

pub returns-in_err-entries-clause-devices : goal.returns-in_err-entries-clause-devices
returns-in_err-entries-clause-devices g c =
    let p = err_from_is_err_and c.from_residual-in_err-entries.result c.from_residual-in_err-entries.ensures.1 in
    devices_then c.requires.whole (λ device is. not_err _ _ is) c.in_ok-snapshot.ensures.devices
    (reads_handed_on c.from_residual-in_err-entries.result _ p.0 p.1 p.2 c.in_err-entries.ensures.devices)

pub returns-in_err-put_over-clause-devices : goal.returns-in_err-put_over-clause-devices
returns-in_err-put_over-clause-devices g c =
    let p = err_from_is_err_and c.from_residual-in_err-put_over.result c.from_residual-in_err-put_over.ensures.1 in
    devices_then c.requires.whole (λ device is. not_err _ _ is) c.in_ok-snapshot.ensures.devices
    (reads_forgotten _ c.from_residual-in_err-put_over.result (p.1 ∙ ap Err p.2) c.in_ok-entries.ensures.devices)

pub returns-clause-devices : goal.returns-clause-devices
returns-clause-devices g c = devices_then c.requires.whole (λ device is. not_err _ _ is)
    c.in_ok-snapshot.ensures.devices (reads_well _ _ c.in_ok-entries.ensures.devices)
