-- A database whose devices were all synced, whoever wrote them before.
use Rattle.std.specs.Prelude.{◌≡◌, ◌≢◌, ◌⊎◌, ℕ, List, Option, Some, is_some, length, Result, Ok, OnOk, IfErr}
use Rattle.std.proofs.Common.{refl, sym, ap, ◌∙◌}
use Rattle.std.proofs.lemmas.Option.{same_Some}
use Rattle.outside.specs.declared.device.Device.{Device}
use Rattle.outside.specs.declared.device.Device.TheVariants.{Save, Snaps, Bank}
use Rattle.outside.specs.Disk.{IfTold, Only, Runs}
use Rattle.outside.specs.Reads.{OnlyReads}
use Rattle.log_writer.specs.declared.vault.Vault.{Vault}
use Rattle.wire_form.specs.declared.savepoint.Savepoint.{Savepoint}
use Rattle.log_writer.specs.Save.{Names}
use Rattle.log_writer.specs.Vault.{disk_in, IsWhole}
use Rattle.joint_crashes.specs.Images.{Images}
use Rattle.joint_crashes.specs.JointCrash.{Parts, parts_of}
use Rattle.joint_crashes.specs.Resting.{AreSettled, AreTold}
use Rattle.joint_crashes.specs.VaultReads.{AreQuiet, RoseIn, VaultOnlyReads, bank_there, told_read}

-- Nothing was written or cut of any device since it was synced.
pub record IsSynced {D : Type 0} (settled : D → Type 0) (parts : Parts D) : Type 0 where
  pub save : settled parts.save
  pub snaps : settled parts.snaps
  pub bank : (n : ℕ) (bank : D) → parts.banks n ≡ Some bank → settled bank

-- Syncs of the devices of a database. Whatever they answer, what reads give stays, and a stop leaves nothing new; after
-- `Ok` nothing is pending of any. A fault is told of a device whose count of faults rose.
pub record SyncsAll {D : Type 0} (tells : D → Option (List ℕ)) (clock : D → ℕ) (image_at : D → ℕ → List ℕ → Type 0)
    (faults : D → ℕ) (settled : D → Type 0) (old new : Vault D) (result : Result (Unit {0}) Device) : Type 0 where
  pub reads : VaultOnlyReads tells clock image_at faults old new
  pub synced : OnOk result (IsSynced settled (parts_of new))
  pub quiet : OnOk result (AreQuiet faults old new)
  pub failed : IfErr result (λ device. RoseIn faults device old new)

-- What is left of the save device while a byte of it is written again: each stop meanwhile leaves what one before might
-- have left, or a device that names the same savepoint. One that names nothing, as it is damaged, is only read.
pub record KeepsSavepoint {D : Type 0} (tells : D → Option (List ℕ)) (clock : D → ℕ)
    (image_at : D → ℕ → List ℕ → Type 0) (faults : D → ℕ) (old new : D) : Type 0 where
  pub told : is_some (tells new) ≡ is_some (tells old)
  pub any_moment : (newest : Option Savepoint) → IfTold (tells old) (λ file. Names file newest
      → Runs clock image_at old new (λ left. image_at old (clock old) left ⊎ Names left newest))
  pub unnamed : IfTold (tells old) (λ file. ((newest : Option Savepoint) → Names file newest → ⊥)
      → OnlyReads tells clock image_at faults old new)

-- A database is made ready to be changed, whoever used it last and however that ended: each device is synced, a byte of
-- the save is written again, and the others are only read. No store and no cut is recorded. After `Ok` nothing is
-- pending, and each device tells what it told. A fault is told of a device whose count of faults rose. Where that is
-- another than the save, the save was only read, too (`unwritten`), as its byte is written only once all are synced.
-- Of a byte that was written no field says that the others were synced before: each device has a clock of its own, and
-- calls of two devices that no store and no cut ties together have no order.
pub record TakesOver {D : Type 0} (tells : D → Option (List ℕ)) (clock : D → ℕ) (image_at : D → ℕ → List ℕ → Type 0)
    (faults : D → ℕ) (settled : D → Type 0) (old new : Vault D) (result : Result (Unit {0}) Device) : Type 0 where
  pub save : KeepsSavepoint tells clock image_at faults old.save new.save
  pub others : (device : Device) → device ≢ Save → (was : D) → disk_in old device ≡ Some was
      → (now : D) × (disk_in new device ≡ Some now) × OnlyReads tells clock image_at faults was now
  pub even : length new.even.items ≡ length old.even.items
  pub odd : length new.odd.items ≡ length old.odd.items
  pub ties : new.ties ≡ old.ties
  pub cuts : new.cuts ≡ old.cuts
  pub told : OnOk result (tells new.save ≡ tells old.save)
  pub synced : OnOk result (IsSynced settled (parts_of new))
  pub quiet : OnOk result (AreQuiet faults old new)
  pub failed : IfErr result (λ device. RoseIn faults device old new)
  pub unwritten : IfErr result (λ device. device ≢ Save → OnlyReads tells clock image_at faults old.save new.save)

module _ {D : Type 0} {tells : D → Option (List ℕ)} {clock : D → ℕ} {image_at : D → ℕ → List ℕ → Type 0}
    {settled : D → Type 0}
    (rests : (disk : D) → settled disk → IfTold (tells disk) (Only clock image_at disk)) where
  -- A stop leaves of each device that was synced what it tells, and nothing else.
  pub synced_settled : {parts : Parts D} {found : Images} → IsSynced settled parts → AreTold tells parts found
      → AreSettled tells clock image_at parts found
  synced_settled synced told = record {
    told = told;
    save = rests _ synced.save _ told.save;
    snaps = rests _ synced.snaps _ told.snaps;
    bank = λ n bank there. rests bank (synced.bank n bank there) _ (told.bank n bank there);
  }

  -- Behind syncs that is what it told before.
  pub synced_told : {faults : D → ℕ} {old new : Vault D} {found : Images}
      → VaultOnlyReads tells clock image_at faults old new → IsWhole old → IsSynced settled (parts_of new)
      → AreTold tells (parts_of old) found → AreSettled tells clock image_at (parts_of new) found
  synced_told reads whole synced told = synced_settled synced (told_read reads whole told)

-- A database stays whole.
pub whole_taken : {D : Type 0} {tells : D → Option (List ℕ)} {clock : D → ℕ} {image_at : D → ℕ → List ℕ → Type 0}
    {faults : D → ℕ} {settled : D → Type 0} {old new : Vault D} {result : Result (Unit {0}) Device}
    → TakesOver tells clock image_at faults settled old new result → IsWhole old → IsWhole new
whole_taken takes whole = record { even = takes.even ∙ whole.even; odd = takes.odd ∙ whole.odd }

-- the others are other devices than the save
snaps_not_save : Snaps ≢ Save
snaps_not_save same = cc

bank_not_save : (n : ℕ) → Bank n ≢ Save
bank_not_save n same = cc

-- Of a database that was made ready each device tells what it told, and a stop leaves that and nothing else.
pub taken_told : {D : Type 0} {tells : D → Option (List ℕ)} {clock : D → ℕ} {image_at : D → ℕ → List ℕ → Type 0}
    {faults : D → ℕ} {settled : D → Type 0} {old new : Vault D} {found : Images} (done : Unit {0})
    → ((disk : D) → settled disk → IfTold (tells disk) (Only clock image_at disk))
    → TakesOver tells clock image_at faults settled old new (Ok done) → IsWhole old → AreTold tells (parts_of old) found
    → AreSettled tells clock image_at (parts_of new) found
taken_told {tells = tells} {old = old} {new = new} {found = found} done rests takes whole told =
    let snaps = takes.others Snaps snaps_not_save old.snaps refl in
    synced_settled rests takes.synced (record {
      save = takes.told ∙ told.save;
      snaps = ap tells (same_Some _ _ snaps.1) ∙ snaps.2.told ∙ told.snaps;
      bank = λ n bank there.
          let was = bank_there whole (whole_taken takes whole) n bank there in
          let now = takes.others (Bank n) (bank_not_save n) was.0 was.1 in
          ap tells (same_Some _ _ (sym there ∙ now.1)) ∙ now.2.told ∙ told.bank n was.0 was.1;
    })
