use Rattle.std.proofs.Common.{◌≡◌, ◌≢◌, ◌+◌, ◌⊎◌, inl, inr, ℕ, true, false, List, length}
use Rattle.std.proofs.Common.{refl, sym, ◌∙◌, ap, subst, arith}
use Rattle.std.specs.Prelude.{Some, Result, Err, is_some}
use Rattle.log_writer.specs.declared.save.SaveFault.{SaveFault}
use Rattle.log_writer.specs.declared.save.SaveFault.TheVariants.{Device, Down, Limit}
use Rattle.log_writer.specs.Points.{sequence_of}
use Rattle.log_writer.specs.Save.{Names, IsStored}
use Rattle.outside.specs.Disk.{Only}
use Rattle.log_writer.specs.Vault.{disk_in, IsWhole}
use Rattle.log_writer.specs.declared.vault.Vault.{Vault}
use Rattle.outside.specs.declared.device.Device.TheVariants.{Bank}
use Rattle.wire_form.specs.declared.savepoint.Savepoint.{Savepoint}
use Rattle.joint_crashes.specs.JointCrash.{Parts, Moments, CrashesNow}
use Rattle.joint_crashes.specs.Story.{Story, IsTold}
use Rattle.joint_crashes.specs.Cutting.{AreReady}
use Rattle.joint_crashes.specs.Crashes.Instants.{keeps_then}
use Rattle.joint_crashes.specs.VaultReads.{some_of, quiet_of}
use Rattle.joint_crashes.specs.Crashes.StoreSteps.{now_one, all_stored, all_failed, all_refused}
use Rattle.joint_crashes.specs.RecordsAdded.{RecordsAdded, nothing_added, tie_added, tie_then}
use Rattle.joint_crashes.proofs.settling.store_and_cut.Goals as goal

fault_cases : (f : SaveFault) → (f ≡ Device) ⊎ (f ≢ Device)
fault_cases Device = inl refl
fault_cases (Down n) = inr (λ is. cc is)
fault_cases (Limit n) = inr (λ is. cc is)

err_differs : {T : Type 0} (f : SaveFault) → f ≢ Device → (let r : Result T SaveFault = Err f in r) ≢ Err Device
err_differs f other is = other (cc is)

-- a stop now finds the savepoint that the one image of the save names
named_now : {D : Type 0} {clock : D → ℕ} {image_at : D → ℕ → List ℕ → Type 0} {story : Story} {from : Moments}
    {low high : ℕ} {all : Parts D} {file : List ℕ} {next : Savepoint} → IsTold clock image_at story from low high all
    → AreReady clock image_at story high all → story.point high ≡ Some next → Only clock image_at all.save file
    → Names file (Some next) → CrashesNow clock image_at all
named_now {next = next} told ready point only names = now_one told ready (λ b image.
    subst (λ x. Names b x) (sym point) (subst (λ l. Names l (Some next)) (sym (only b image)) names))

-- a store leaves the log files
stored_whole : {D : Type 0} (old new : Vault D) → new.even ≡ old.even → new.odd ≡ old.odd → IsWhole old → IsWhole new
stored_whole old new even odd whole = record {
  even = ap (λ l. length l.items) even ∙ whole.even;
  odd = ap (λ l. length l.items) odd ∙ whole.odd;
}

pub returns-in-Err : goal.returns-in-Err
returns-in-Err g c =
    let e = c.in-Err.ensures in
    record {
      crashes = λ story from low may past tell none.
          let file = some_of (g.D.Disk.tells c.args.vault.now.save) may.tells_save in
          let now = c.requires.stored file.0 file.1 in
          elim (fault_cases c.in-Err.fault) [
            | inl device ↦
                let left = all_failed may (e.stores.any_moment file.0 file.1) now.only now.names
                (e.begun (ap Err device)) in
                rw (e.others.0, e.others.1, e.others.2, e.others.3) (left.1, left.0)
            | inr other ↦
                let same = e.untied (err_differs c.in-Err.fault other) in
                let left = all_refused may now.only now.names in
                rw same (left.1, left.0)
          ];
      emptied = λ tell. tt;
      there = λ n was. rw (e.others.1, e.others.2) was;
      whole = λ was. stored_whole c.args.vault.now c.store_in.new.vault e.others.1 e.others.2 was;
      told = e.stores.told;
      snaps = e.others.0;
      stores = tt;
      save_failed = λ is.
          let fault : c.in-Err.fault ≡ Device = cc is in
          (c.args.vault.now.save, c.store_in.new.vault.save, refl, refl, e.stores.device (ap Err fault));
      bank_failed = λ n is. absurd (cc is);
      limit = λ sequence is.
          let fault : c.in-Err.fault ≡ Limit sequence = cc is in
          let cause = (e.stores.limit sequence).0 (ap Err fault) in
          (cause.1, cause.2, e.untied (err_differs c.in-Err.fault (λ device. cc (fault, device))));
      last = λ top.
          let limit = (e.stores.limit (sequence_of c.args.save.now.newest)).1 (c.requires.up, refl, top) in
          cc limit;
      quiet = tt;
      never_down = λ count is.
          let fault : c.in-Err.fault ≡ Down count = cc is in
          let down = (e.stores.down count).0 (ap Err fault) in
          cc (down, c.requires.up);
      records = elim (fault_cases c.in-Err.fault) [
        | inl device ↦ tie_added _ refl (e.begun (ap Err device)) refl (ap (λ r. r.items) e.others.3)
        | inr other ↦
            let same = e.untied (err_differs c.in-Err.fault other) in
            nothing_added refl (ap (λ v. v.ties.items) same) (ap (λ v. v.cuts.items) same)
      ];
      stops = λ n is. absurd (cc is);
    }

pub returns-in-Ok-cut_banks : goal.returns-in-Ok-cut_banks
returns-in-Ok-cut_banks g c =
    let e = c.in-Ok.ensures in
    let d = c.cut_banks.ensures in
    let after = c.sequence-sequence.ensures.newest ∙ ap sequence_of e.stores.newest in
    record {
      crashes = λ story from low may past tell none.
          let file = some_of (g.D.Disk.tells c.args.vault.now.save) may.tells_save in
          let new_file = some_of (g.D.Disk.tells c.store_in.new.vault.save) (e.stores.told ∙ may.tells_save) in
          let now = e.stores.stored new_file.0 new_file.1 in
          let names = subst (λ p. Names new_file.0 p) e.stores.newest now.names in
          let stored = all_stored c.args.numbers.now may past tell none
          (e.stores.any_moment file.0 file.1) now.only names e.tied in
          let only = subst (λ x. Only g.D.Disk.clock g.D.Disk.image_at x new_file.0) (sym d.others.0) now.only in
          let cut = rw (after, e.others.0, e.others.1, e.others.2, e.others.3) at
          (c.in-Ok-cut_banks.ensures.cut story from low) in
          let done = cut stored.0 in (
            keeps_then stored.1 done.left.stays,
            record {
              told = done.left.told;
              instant = named_now done.left.told done.left.ready may.point only names;
              past = done.past;
              empty = done.empty;
              others = done.others;
              open_others = done.open_others;
            },
          );
      emptied = λ tell. c.in-Ok-cut_banks.ensures.emptied (rw (e.others.1, e.others.2) tell);
      there = λ n was. d.there n (rw (e.others.1, e.others.2) was);
      whole = λ was. d.whole (stored_whole c.args.vault.now c.store_in.new.vault e.others.1 e.others.2 was);
      told = ap (λ x. is_some (g.D.Disk.tells x)) d.others.0 ∙ e.stores.told;
      snaps = d.others.1 ∙ e.others.0;
      stores = (
        e.stores.newest,
        e.stores.up.1,
        subst (λ x. IsStored g.D.Disk.tells g.D.Disk.clock g.D.Disk.image_at x c.store_in.new.self.newest)
            (sym d.others.0)
            e.stores.stored,
      );
      save_failed = λ is. absurd (cc is);
      bank_failed = λ n is. absurd (cc is);
      limit = λ sequence is. absurd (cc is);
      last = λ top.
          let limit = (e.stores.limit (sequence_of c.args.save.now.newest)).1 (c.requires.up, refl, top) in
          cc limit;
      quiet = quiet_of c.args.vault.now c.cut_banks.new.vault (ap g.D.Disk.faults d.others.0 ∙ e.stores.quiet)
          (ap g.D.Disk.faults (d.others.1 ∙ e.others.0))
          (λ n was now before. c.in-Ok-cut_banks.ensures.quiet n was now (rw (e.others.1, e.others.2) before));
      never_down = λ count is. absurd (cc is);
      records = tie_then _ e.tied refl (ap (λ r. r.items) e.others.3)
          (subst (λ k. RecordsAdded k 0 c.args.numbers.now true c.store_in.new.vault c.cut_banks.new.vault) after
          c.in-Ok-cut_banks.ensures.records);
      stops = λ n is. absurd (cc is);
    }

pub returns-in-Err-cut_banks : goal.returns-in-Err-cut_banks
returns-in-Err-cut_banks g c =
    let e = c.in-Ok.ensures in
    let d = c.in-Err-cut_banks.ensures in
    let after = c.sequence-sequence.ensures.newest ∙ ap sequence_of e.stores.newest in
    record {
      crashes = λ story from low may past tell none.
          let file = some_of (g.D.Disk.tells c.args.vault.now.save) may.tells_save in
          let new_file = some_of (g.D.Disk.tells c.store_in.new.vault.save) (e.stores.told ∙ may.tells_save) in
          let now = e.stores.stored new_file.0 new_file.1 in
          let names = subst (λ p. Names new_file.0 p) e.stores.newest now.names in
          let stored = all_stored c.args.numbers.now may past tell none
          (e.stores.any_moment file.0 file.1) now.only names e.tied in
          let only = subst (λ x. Only g.D.Disk.clock g.D.Disk.image_at x new_file.0) (sym d.others.0) now.only in
          let cut = rw (after, e.others.0, e.others.1, e.others.2, e.others.3) at (d.cut story from low) in
          let left = cut stored.0 in (
            keeps_then stored.1 left.stays,
            record {
              high = sequence_of c.args.save.now.newest + 1;
              within = omega arith;
              told = left.told;
              instant = named_now left.told left.ready may.point only names;
            },
          );
      emptied = λ tell. tt;
      there = λ n was. d.there n (rw (e.others.1, e.others.2) was);
      whole = λ was. d.whole (stored_whole c.args.vault.now c.store_in.new.vault e.others.1 e.others.2 was);
      told = ap (λ x. is_some (g.D.Disk.tells x)) d.others.0 ∙ e.stores.told;
      snaps = d.others.1 ∙ e.others.0;
      stores = tt;
      save_failed = λ is. absurd (cc is);
      bank_failed = λ n is.
          let bank : c.in-Err-cut_banks.bank ≡ n = cc is in
          let there = c.requires.banks n (d.among n (ap Err bank)) in
          let was = some_of (disk_in c.args.vault.now (Bank n)) there in
          let now = some_of (disk_in c.cut_banks.new.vault (Bank n))
          (d.there n (rw (e.others.1, e.others.2) there)) in (
            was.0,
            now.0,
            was.1,
            now.1,
            d.device n (ap Err bank) was.0 now.0 (rw (e.others.1, e.others.2) was.1) now.1,
          );
      limit = λ sequence is. absurd (cc is);
      last = λ top.
          let limit = (e.stores.limit (sequence_of c.args.save.now.newest)).1 (c.requires.up, refl, top) in
          cc limit;
      quiet = tt;
      never_down = λ count is. absurd (cc is);
      records = tie_then _ e.tied refl (ap (λ r. r.items) e.others.3)
          (subst (λ k. RecordsAdded k 0 c.args.numbers.now false c.store_in.new.vault c.cut_banks.new.vault) after
          d.records);
      stops = λ n is.
          let bank : c.in-Err-cut_banks.bank ≡ n = cc is in
          let up = d.stops n (ap Err bank) in
          record {
            front = up.front;
            behind = up.behind;
            are = up.are;
            others = λ m before differs. rw (e.others.1, e.others.2) at (up.others m before differs);
          };
    }

pub cut_banks-requires-clause-newest : goal.cut_banks-requires-clause-newest
cut_banks-requires-clause-newest g c =
    (c.store_in.new.self.newest, c.in-Ok.ensures.stores.stored, sym c.sequence-sequence.ensures.newest)
