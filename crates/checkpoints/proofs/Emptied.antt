-- What stands once a savepoint was stored and the log files were cut behind it.
use Rattle.std.proofs.Common.{◌≡◌, ◌∙◌, ◌≤◌, ℕ, List, [], Option, Some, None, length, sym, ap, subst}
use Rattle.std.specs.Prelude.{is_some, OnOk, Result, Ok, Err}
use Rattle.std.specs.List.{Contains}
use Rattle.outside.specs.declared.device.Device.TheVariants.{Bank}
use Rattle.wire_form.specs.declared.savepoint.Savepoint.{Savepoint}
use Rattle.log_writer.specs.Points.{SaveState}
use Rattle.log_writer.specs.Save.{IsStored}
use Rattle.log_writer.specs.Vault.{disk_in, IsWhole}
use Rattle.log_writer.specs.declared.vault.Vault.{Vault}
use Rattle.joint_crashes.specs.Cutting.{AreToldIn}
use Rattle.joint_crashes.specs.JointCrash.{parts_of}
use Rattle.checkpoints.specs.Files.{AllTell, AreEmpty, listed_bank}
use Rattle.checkpoints.specs.Settled.{SameDevices}
use Rattle.joint_crashes.specs.Banks.{all_banks}
use Rattle.checkpoints.specs.SettleLeaves.{CanStore, StandsEmptied}

-- the log files of all numbers were emptied, so all are empty
pub emptied_all : {D T E : Type 0} (tells : D → Option (List ℕ)) (old new : Vault D) (r : Result T E) → IsWhole new
    → (AreToldIn tells all_banks (parts_of old) → OnOk r ((n : ℕ) (bank : D) → Contains all_banks n
    → disk_in new (Bank n) ≡ Some bank → tells bank ≡ Some []))
    → AllTell tells (parts_of old) → OnOk r (AreEmpty tells new)
emptied_all tells old new (Ok x) whole emptied tell =
    λ n bank there. emptied (λ m b has at. tell m b at) n bank (listed_bank whole n bank there) there
emptied_all tells old new (Err e) whole emptied tell = tt

-- behind a store and its cuts
pub stands_stored : {D T E : Type 0} (tells : D → Option (List ℕ)) (clock : D → ℕ)
    (image_at : D → ℕ → List ℕ → Type 0) (save : SaveState) (old new : Vault D) (newest : Option Savepoint)
    (r : Result T E) → IsWhole new
    → OnOk r ((save.newest ≡ newest) × (save.down ≡ None) × IsStored tells clock image_at new.save save.newest)
    → (AreToldIn tells all_banks (parts_of old) → OnOk r ((n : ℕ) (bank : D) → Contains all_banks n
    → disk_in new (Bank n) ≡ Some bank → tells bank ≡ Some []))
    → is_some (tells new.save) ≡ is_some (tells old.save) → new.snaps ≡ old.snaps
    → OnOk r (StandsEmptied tells clock image_at save old new)
stands_stored tells clock image_at save old new newest (Ok x) whole stored emptied told snaps = record {
  up = stored.1;
  stored = stored.2;
  emptied = λ tell n bank there.
      emptied (λ m b has at. tell m b at) n bank (listed_bank whole n bank there) there;
  told = told;
  told_snaps = ap (λ d. is_some (tells d)) snaps;
}
stands_stored tells clock image_at save old new newest (Err e) whole stored emptied told snaps = tt

-- a savepoint may be stored, and the log files cut, once there is room to record that
pub can_store : {D : Type 0} {tells : D → Option (List ℕ)} {clock : D → ℕ} {image_at : D → ℕ → List ℕ → Type 0}
    {save : SaveState} {old mid : Vault D} → SameDevices old mid → IsWhole old → save.down ≡ None
    → IsStored tells clock image_at old.save save.newest → 1 ≤ mid.ties.room → 16 ≤ mid.cuts.room
    → CanStore tells clock image_at save mid
can_store {tells = tells} {clock = clock} {image_at = image_at} {save = save} same whole up stored ties cuts = record {
  whole = record {
    even = ap (λ l. length l.items) same.even ∙ whole.even;
    odd = ap (λ l. length l.items) same.odd ∙ whole.odd;
  };
  up = up;
  stored = subst (λ d. IsStored tells clock image_at d save.newest) (sym same.save) stored;
  ties = ties;
  cuts = cuts;
}
