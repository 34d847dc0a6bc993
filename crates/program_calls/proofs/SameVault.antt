-- A vault with more room for records is the same vault.
use Rattle.std.proofs.Common.{◌≡◌, ◌∙◌, Some, ap, sym, subst, ℕ, List, length}
use Rattle.std.specs.Prelude.{◌/◌, ◌%◌, ◌==◌, if◌then◌else◌, slice_get}
use mathlib.Core.Path.{fun_ext}
use Rattle.std.proofs.lemmas.Option.{same_Some}
use Rattle.log_writer.specs.Vault.{IsWhole, disk_in}
use Rattle.outside.specs.declared.device.Device.{Device}
use Rattle.outside.specs.declared.device.Device.TheVariants.{Save, Snaps, Bank}
use Rattle.log_writer.specs.declared.records.Tie.{Tie}
use Rattle.log_writer.specs.declared.vault.Vault.{Vault}
use Rattle.joint_crashes.specs.JointCrash.{Moments, Parts, parts_of}
use Rattle.joint_crashes.specs.VaultReads.{AreQuiet}
use Rattle.recovery_core.specs.Recoverable.{Reading}
use Rattle.serial_model.specs.History.{Entry}
use Rattle.serial_model.specs.State.{State}
use Rattle.serial_model.specs.declared.decl.Decl.{Decl}
use Rattle.tx_script.specs.Run.{Ran}
use Rattle.joint_crashes.specs.JointCrash.{CrashesNow}
use Rattle.joint_crashes.specs.Story.{IsTold}
use Rattle.round_engine.specs.Crashes.{StaysReady}
use Rattle.round_engine.specs.Unbegun.{RoomAlone}
use Rattle.program_calls.specs.RunKept.{RecordsOf}
use Rattle.program_calls.proofs.CrashesKept.{CrashesKept, StoredAt}

module _ {D : Type 0} {before now : Vault D} (room : RoomAlone before now) where
  -- each log file is the same
  same_bank : (n : ℕ) → disk_in now (Bank n) ≡ disk_in before (Bank n)
  same_bank n =
      ap (λ v. slice_get (if n % 2 == 0 then v.items else now.odd.items) (n / 2)) room.even
      ∙ ap (λ v. slice_get (if n % 2 == 0 then before.even.items else v.items) (n / 2)) room.odd

  -- so is each device
  same_disk : (device : Device) → disk_in now device ≡ disk_in before device
  same_disk Save = ap Some room.save
  same_disk Snaps = ap Some room.snaps
  same_disk (Bank n) = same_bank n

  -- and its count of faults stands still
  pub quiet_room : (faults : D → ℕ) → AreQuiet faults before now
  quiet_room faults device was is at here =
      ap faults (same_Some is was (sym here ∙ same_disk device ∙ at))

  -- the vault is whole as before
  pub whole_room : IsWhole before → IsWhole now
  whole_room whole = record {
    even = ap (λ v. length v.items) room.even ∙ whole.even;
    odd = ap (λ v. length v.items) room.odd ∙ whole.odd;
  }

  -- and a stop leaves what it left
  pub parts_room : parts_of now ≡ parts_of before
  parts_room =
      ap (λ x. record (parts_of now) { save = x }) room.save
      ∙ ap (λ x. record (parts_of now) { save = before.save; snaps = x }) room.snaps
      ∙ ap (λ x. record (parts_of now) { save = before.save; snaps = before.snaps; ties = x }) room.ties
      ∙ ap (λ x. record (parts_of now) {
        save = before.save;
        snaps = before.snaps;
        ties = before.ties.items;
        cuts = x;
      }) room.cuts
      ∙ ap (λ x. record (parts_of before) { banks = x }) (fun_ext same_bank)

  -- what is known of crashes is known still
  pub crashes_room : {clock : D → ℕ} {image_at : D → ℕ → List ℕ → Type 0} {from : Moments} {was : Reading}
      {decls : List Decl} {settled saved : ℕ} {s : State} {rans : List Ran} {ordered : List Entry}
      → CrashesKept clock image_at from was decls settled saved s rans ordered before
      → CrashesKept clock image_at from was decls settled saved s rans ordered now
  crashes_room {clock = clock} {image_at = image_at} {from = from} {settled = settled} {rans = rans} kept = record {
    story = kept.story;
    low = kept.low;
    high = kept.high;
    points = kept.points;
    told = subst (λ (p : Parts D). IsTold clock image_at kept.story from kept.low kept.high p) (sym parts_room) kept.told;
    stays = subst (λ (p : Parts D). StaysReady clock image_at kept.story kept.low kept.high p) (sym parts_room) kept.stays;
    instant = subst (λ (p : Parts D). CrashesNow clock image_at p) (sym parts_room) kept.instant;
    stored = λ i epoch at. subst (λ (ties : List Tie). StoredAt kept.story ties settled kept.high i epoch) (sym room.ties)
        (kept.stored i epoch at);
    recorded = subst (λ (ties : List Tie). RecordsOf settled rans ties) (sym room.ties) kept.recorded;
  }
