-- What is known of the crashes of all devices before the first round.
use Rattle.std.proofs.Common.{◌≡◌, ◌∙◌, ◌<◌, ◌-◌, inl, inr, sym, ap, subst, refl, ℕ}
use Rattle.std.proofs.Common.{List, [], Option, Some, arith}
use Rattle.std.specs.List.{AllByRecursion}
use Rattle.std.proofs.lemmas.Bool.{cases_lt}
use Rattle.std.proofs.lemmas.Option.{same_Some}
use Rattle.log_writer.specs.Cuts.{whole_ends}
use Rattle.outside.specs.Disk.{Only}
use Rattle.outside.specs.Moments.{left_after}
use Rattle.log_writer.specs.Vault.{IsWhole, disk_in}
use Rattle.outside.specs.declared.device.Device.TheVariants.{Bank, Save}
use Rattle.log_writer.specs.declared.vault.Vault.{Vault}
use Rattle.outside.specs.declared.device.Device.{Device}
use Rattle.serial_model.specs.State.{State}
use Rattle.serial_model.specs.declared.decl.Decl.{Decl}
use Rattle.serial_model.specs.declared.number.Number.{Number}
use Rattle.wire_form.specs.declared.savepoint.Savepoint.{Savepoint}
use Rattle.log_writer.specs.Points.{saved_of, sequence_of}
use Rattle.log_writer.specs.declared.saved.Saved.{Saved}
use Rattle.snapshot_store.specs.Store.{IsWhole as IsWholePage}
use Rattle.checkpoints.specs.CrashesRecover.{LeavesSame, old_recovers}
use Rattle.checkpoints.specs.Files.{has_files}
use Rattle.joint_crashes.specs.Images.{Images, epoch_of}
use Rattle.joint_crashes.specs.JointCrash.{CrashesNow, IsJointCrash, IsNow, IsSince, Moments}
use Rattle.joint_crashes.specs.JointCrash.{parts_of}
use Rattle.recovery_core.specs.Recoverable.{IsStateOf}
use Rattle.recovery_core.specs.RecoverableLaws.{one_reading}
use Rattle.recovery_core.specs.Recovered.{IsUp, Recovers, recovers_state}
use Rattle.joint_crashes.specs.Resting.{AreTold, IsResting}
use Rattle.checkpoints.specs.SettleGoesOn.{GoesOn}
use Rattle.checkpoints.specs.SettleLaws.{point_says}
use Rattle.joint_crashes.specs.SettleRests.{RestsSince, rests_now, rests_read, stops_after_reads}
use Rattle.recovery_core.specs.SnapshotsKept.{StandsAsRead}
use Rattle.joint_crashes.specs.Story.{StandsFor, Story}
use Rattle.joint_crashes.specs.VaultReads.{RoseIn, VaultOnlyReads, vault_reads_none, whole_read}
use Rattle.recovery_core.specs.declared.recovered.Recovered.{Recovered}
use Rattle.checkpoints.specs.declared.without_entries.Settled.{Settled}
use Rattle.checkpoints.specs.SettlesInto.{SettlesInto}
use Rattle.round_engine.specs.Begun.{begun}
use Rattle.round_engine.specs.KnownAtFirst.{LeftSince, known_at_first}
use Rattle.round_engine.specs.Logs.{AreClosedFiles, AreLogs}
use Rattle.round_engine.specs.Standing.{RuntimeState}
use Rattle.program_calls.specs.Beginning.{Opening}
use Rattle.program_calls.specs.RunKept.{RecordsOf, StandsWhenStopped}
use Rattle.program_calls.specs.Vaults.{IsUntouched, Vaults, vaults_of}
use Rattle.program_calls.proofs.CrashPoints.{FoundAt}
use Rattle.program_calls.proofs.CrashesKept.{KeptBefore}
use Rattle.program_calls.proofs.KeptThrough.{one_kept}
use Rattle.program_calls.proofs.SnapshotsKept.{chained, each_left}
use Rattle.program_calls.proofs.VaultsLater.{there}

-- ---- a vault that was only read rests on

-- A vault that rested as a call began rests still, and has rested since.
pub record RestsStill {D : Type 0} (clock : D → ℕ) (image_at : D → ℕ → List ℕ → Type 0) (from : Moments)
    (was : Vault D) (rest : IsResting clock image_at (parts_of was)) (is : Vault D) : Type 0 where
  pub since : RestsSince clock image_at from rest.point rest.pages rest.counted (parts_of is)
  pub only : Only clock image_at is.save rest.file

module _ {D : Type 0} {tells : D → Option (List ℕ)} {clock : D → ℕ} {image_at : D → ℕ → List ℕ → Type 0}
    {faults : D → ℕ}
    {from : Moments} {was : Vault D} (rest : IsResting clock image_at (parts_of was)) where
  pub rests_after_reads : {is : Vault D} → IsWhole was → VaultOnlyReads tells clock image_at faults was is
      → IsNow clock image_at (parts_of was) from → RestsStill clock image_at from was rest is
  rests_after_reads {is = is} whole reads now = record {
    since = rests_read whole reads (rests_now rest now);
    only = λ c image.
        let read = reads.each Save was.save refl in
        let same : is.save ≡ read.0 = same_Some is.save read.0 read.1 in
        elim (left_after c read.2.moments (subst (λ d. image_at d (clock d) c) same image)) [
          | inl before ↦ rest.save c before
          | inr within ↦ sym within.2 ∙ rest.save within.0 within.1
        ];
  }

module _ {D : Type 0} {clock : D → ℕ} {image_at : D → ℕ → List ℕ → Type 0} {from : Moments} {was : Vault D}
    (rest : IsResting clock image_at (parts_of was)) where
  -- the devices that rest, whatever is recorded of them
  pub resting_still : {is : Vault D} → IsWhole was → IsWhole is → RestsStill clock image_at from was rest is
      → (after : IsResting clock image_at (parts_of is))
      × RestsSince clock image_at from after.point after.pages after.counted (parts_of is)
  resting_still {is = is} whole still rests = (
    record {
      file = rest.file;
      point = rest.point;
      pages = rest.pages;
      counted = rest.counted;
      save = rests.only;
      names = rest.names;
      snaps = rests.since.snaps (clock is.snaps) rests.since.snaps_came (omega arith);
      pages_sized = rest.pages_sized;
      bank = λ n bank here. rests.since.bank n bank here (clock bank) (rests.since.bank_came n bank here) (omega arith);
      bank_sized = λ n bank here. let first = there whole still (Bank n) bank here in rest.bank_sized n first.0 first.1;
    },
    rests.since,
  )

-- ---- calls that only read

module _ {D : Type 0} (v : Vaults D)
    (reads_told : (disk : D) (file : List ℕ) → v.tells disk ≡ Some file → v.image_at disk (v.clock disk) file) where
  -- each crash since a call began that only read leaves what the vault stood for
  pub stops_read : (decls : List Decl) (opening : Opening) → IsWhole v.was
      → VaultOnlyReads v.tells v.clock v.image_at v.faults v.was v.is → StandsWhenStopped v decls [] opening []
  stops_read decls opening whole reads found from epoch state told that rest now =
      let still = rests_after_reads rest whole reads now in
      let whole_is = whole_read reads whole in
      let stands : (at : Moments) (left : Images) → IsSince from at
      → IsJointCrash v.clock v.image_at (parts_of v.is) at left → StandsAsRead that.reading left epoch state =
      λ at left since crash.
      let images = crash.images in
      old_recovers reads_told (parts_of v.is) (has_files v.was whole) (has_files v.is whole_is) rest told that
      (still.since.save at.save left.save since.save images.save_come images.save)
      (still.since.snaps at.snaps since.snaps images.snaps_come left.snaps images.snaps)
      (λ n bank here. still.since.bank n bank here (at.bank n) (since.bank n) (images.bank_come n bank here)
      (left.bank n) (images.bank n bank here)) in
      record {
        leaves = λ at left since crash. (epoch, omega arith, (stands at left since crash).is);
        snapshots = λ at left now since crash is.
            each_left decls [] found left epoch state that (stands at left since crash) now is;
        recorded = λ some. absurd (some refl);
        covers = λ i saved at. absurd cc;
        instant = λ when. elim when [
          | inr some ↦ absurd (some refl)
          | inl before ↦ stops_after_reads whole reads before
        ];
        rests = λ none file image only. (resting_still rest whole whole_is still).0;
      }

  -- so does one that let the vault alone
  pub stops_untouched : (decls : List Decl) (opening : Opening) → IsWhole v.was → IsUntouched v
      → StandsWhenStopped v decls [] opening []
  stops_untouched decls opening whole same = stops_read decls opening whole
      (subst (λ x. VaultOnlyReads v.tells v.clock v.image_at v.faults v.was x) (sym same) (vault_reads_none v.was))

-- ---- calls that settled, or were refused that

-- Where nothing that counts was pending as a call began, and no device failed, nothing is behind it, where the save has
-- one image.
abbrev pub RestsBehind : {D : Type 0} → (D → Option (List ℕ)) → (D → ℕ) → (D → ℕ → List ℕ → Type 0) → (D → ℕ) → Vault D
    → Vault D → Type 0
RestsBehind tells clock image_at faults was is = ((device : Device) → RoseIn faults device was is → ⊥) → (found : Images)
    (from : Moments) → AreTold tells (parts_of was) found → IsResting clock image_at (parts_of was)
    → IsNow clock image_at (parts_of was) from → (file : List ℕ) → image_at is.save (clock is.save) file
    → Only clock image_at is.save file → IsResting clock image_at (parts_of is)

module _ {D : Type 0} {tells : D → Option (List ℕ)} {clock : D → ℕ} {image_at : D → ℕ → List ℕ → Type 0}
    {faults : D → ℕ} {was is : Vault D} where
  -- each crash since the call began leaves what the vault stood for, where settling left that
  pub stops_settled : (between : Vault D) (r : Recovered) (decls : List Decl) (opening : Opening)
      → (recovers : (found : Images) → AreTold tells (parts_of was) found → Recovers found r)
      → ((found : Images) (from : Moments) (told : AreTold tells (parts_of was) found)
      → IsResting clock image_at (parts_of was)
      → IsNow clock image_at (parts_of was) from
      → LeavesSame clock image_at from (recovers found told).reading r.epoch r.state (parts_of between) (parts_of is))
      → RestsBehind tells clock image_at faults was is
      → StandsWhenStopped (vaults_of tells clock image_at faults was is) decls [] opening []
  stops_settled between r decls opening recovers crashes rests found from epoch state told that rest now =
      let left = crashes found from told rest now in
      let recovered = recovers found told in
      let one = one_kept found r.epoch epoch r.state state (recovers_state found r recovered) that in
      let stands : (at : Moments) (images : Images) → IsSince from at
      → IsJointCrash clock image_at (parts_of is) at images → StandsAsRead that.reading images epoch state =
      λ at images since crash.
      subst (λ w. StandsAsRead w images epoch state)
      (one_reading found recovered.reading that.reading recovered.is that.is)
      (subst (λ e. StandsAsRead recovered.reading images e state) one.0
      (subst (λ (t : State). StandsAsRead recovered.reading images r.epoch t) one.1
      (left.recovers at images since crash))) in
      record {
        leaves = λ at images since crash. (epoch, omega arith, (stands at images since crash).is);
        snapshots = λ at images now since crash is_now.
            each_left decls [] found images epoch state that (stands at images since crash) now is_now;
        recorded = λ some. absurd (some refl);
        covers = λ i saved at. absurd cc;
        instant = λ when. record { crashes = left.now; ended = left.ended };
        rests = λ none. rests none found from told rest now;
      }

-- ---- a run begins

module _ {D : Type 0} {tells : D → Option (List ℕ)} {clock : D → ℕ} {image_at : D → ℕ → List ℕ → Type 0}
    (reads_told : (disk : D) (file : List ℕ) → tells disk ≡ Some file → image_at disk (clock disk) file)
    {from : Moments} {epoch : ℕ} {state : State} {given : List Decl} {between vault : Vault D} (recovered : Recovered)
    (settled : Settled) (found : Images) (is_up : IsUp recovered)
    (settles : SettlesInto tells clock image_at recovered given between vault settled)
    (told_found : AreTold tells (parts_of between) found) (recovers : Recovers found recovered)
    (goes : GoesOn clock image_at from recovers.reading epoch state (sequence_of recovered.save.newest)
    settled.save.newest (parts_of vault))
    (left : LeftSince clock image_at from found vault)
    (whole_pages : AllByRecursion IsWholePage settled.store.pages) where
  abbrev last : ℕ
  last = sequence_of settled.save.newest

  newest : (p : Savepoint) × (settled.save.newest ≡ Some p) × (settled.saved ≡ saved_of p)
  newest = point_says settled.save.newest settled.saved settles.says

  -- images that have what one of the savepoints counts stand for it
  stands_for : {story : Story} (k : ℕ) (images : Images) → FoundAt story images k
      → StandsFor clock image_at story (parts_of vault) images k
  stands_for k images at = record {
    names = at.names;
    pages = at.pages;
    counted = λ n bank here. at.counted n (bank_below n bank here);
  }
    where
      bank_below : (n : ℕ) (bank : D) → disk_in vault (Bank n) ≡ Some bank → n < 16
      bank_below n bank here = elim (cases_lt n 16) [
        | inl below ↦ below
        | inr past ↦ absurd (cc (here, whole_ends settles.whole n past))
      ]

  -- ---- what is known as the first round begins

  pub crashes_begin : (recorded : (records : RecordsOf last [] vault.ties.items) × (records.failed ≡ 0))
      (room : ℕ) (first : Number) (r : RuntimeState)
      → r ≡ begun settled.decls settled.state r.stands settled.save settled.store room first
      → settled.saved.epoch ≡ epoch → epoch ≡ recovered.epoch → state ≡ recovered.state
      → CrashesNow clock image_at (parts_of vault)
      → AreLogs tells clock image_at (λ worker. []) (λ worker. []) r vault
      → AreClosedFiles tells clock image_at (λ worker. []) (λ worker. []) r vault
      → KeptBefore tells clock image_at from recovers.reading settled.decls last epoch state [] [] (λ w. []) (λ w. []) r
      vault
  crashes_begin recorded room first r begins epoch_is saved_is state_is instant =
      let start : RuntimeState = begun settled.decls settled.state r.stands settled.save settled.store room first in
      subst (λ (x : RuntimeState). AreLogs tells clock image_at (λ worker. []) (λ worker. []) x vault
      → AreClosedFiles tells clock image_at (λ worker. []) (λ worker. []) x vault
      → KeptBefore tells clock image_at from recovers.reading settled.decls last epoch state [] [] (λ w. []) (λ w. []) x
      vault) (sym begins)
      (λ logs files.
      let known = known_at_first reads_told recovered settled found is_up settles told_found recovers goes left
      whole_pages room first start refl logs files in
      record {
        kept = record {
          story = known.story;
          low = sequence_of recovered.save.newest;
          high = last;
          points = record {
            read = record {
              chained = chained found recovers.reading recovers.is;
              epoch = saved_is ∙ recovers.epoch;
              state = subst (IsStateOf recovers.reading) (sym state_is) recovers.state;
            };
            within = known.knows.told.save.ordered;
            reaches = omega arith;
            first_epoch = ap epoch_of (known.newest_is ∙ newest.1) ∙ sym (ap (λ (x : Saved). x.epoch) newest.2) ∙ epoch_is;
            old = λ k images at_least at_most at. known.stands k images at_least at_most (stands_for k images at);
            later = λ k images past at_most at. absurd (omega (arith, past, at_most));
            rise = λ j k at_least less at_most.
                let same : j ≡ k = omega (arith, at_least, less, at_most) in
                omega (arith, ap (λ n. epoch_of (known.story.point n)) same);
            above = tt;
          };
          told = known.knows.told;
          stays = known.stays;
          instant = instant;
          stored = λ i saved at. absurd cc;
          recorded = recorded.0;
        };
        durable = λ w. [];
        closed = λ w. [];
        knows = known.knows;
        high_is = refl;
        many = omega arith;
        unfailed = recorded.1;
      })
