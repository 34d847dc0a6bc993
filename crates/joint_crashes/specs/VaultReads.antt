-- Calls that only read the devices of a database, and whose count of faults rose in them.
use Rattle.std.specs.Prelude.{◌≡◌, ℕ, List, Option, Some, None, IsSome, is_some, length}
use Rattle.std.proofs.Common.{inl, inr, refl, sym, ap, ◌∙◌, subst, arith}
use Rattle.std.proofs.lemmas.Bool.{cases_lt}
use Rattle.std.proofs.lemmas.Option.{same_Some}
use Rattle.log_writer.specs.Cuts.{whole_bank, whole_ends}
use Rattle.outside.specs.Faults.{Rose}
use Rattle.outside.specs.Moments.{left_after}
use Rattle.outside.specs.Reads.{OnlyReads, reads_then}
use Rattle.log_writer.specs.Vault.{disk_in, IsWhole}
use Rattle.outside.specs.declared.device.Device.{Device}
use Rattle.outside.specs.declared.device.Device.TheVariants.{Save, Snaps, Bank}
use Rattle.log_writer.specs.declared.vault.Vault.{Vault}
use Rattle.wire_form.specs.declared.page.Page.{Page}
use Rattle.wire_form.specs.declared.savepoint.Savepoint.{Savepoint}
use Rattle.log_writer.specs.Save.{IsStored}
use Rattle.snapshot_store.specs.Store.{HoldsPages}
use Rattle.joint_crashes.specs.Images.{Images}
use Rattle.joint_crashes.specs.JointCrash.{parts_of}
use Rattle.joint_crashes.specs.Resting.{AreTold}

-- each device was only read, and no store and no cut was recorded
pub record VaultOnlyReads {D : Type 0} (tells : D → Option (List ℕ)) (clock : D → ℕ)
    (image_at : D → ℕ → List ℕ → Type 0)
    (faults : D → ℕ) (old new : Vault D) : Type 0 where
  pub each : (device : Device) (was : D) → disk_in old device ≡ Some was
      → (now : D) × (disk_in new device ≡ Some now) × OnlyReads tells clock image_at faults was now
  pub even : length new.even.items ≡ length old.even.items
  pub odd : length new.odd.items ≡ length old.odd.items
  pub ties : new.ties ≡ old.ties
  pub cuts : new.cuts ≡ old.cuts

-- the database has this device, and its count of faults rose
abbrev pub RoseIn : {D : Type 0} → (D → ℕ) → Device → Vault D → Vault D → Type 0
RoseIn {D} faults device old new =
    (was : D) × (now : D) × (disk_in old device ≡ Some was) × (disk_in new device ≡ Some now)
    × Rose (faults was) (faults now)

-- the count of faults of each device stands still
abbrev pub AreQuiet : {D : Type 0} → (D → ℕ) → Vault D → Vault D → Type 0
AreQuiet {D} faults old new =
    (device : Device) (was now : D) → disk_in old device ≡ Some was → disk_in new device ≡ Some now
    → faults now ≡ faults was

-- so it does where those of the save, of the snapshots and of each log file do
pub quiet_of : {D : Type 0} {faults : D → ℕ} (old new : Vault D) → faults new.save ≡ faults old.save
    → faults new.snaps ≡ faults old.snaps
    → ((n : ℕ) (was now : D) → disk_in old (Bank n) ≡ Some was → disk_in new (Bank n) ≡ Some now
    → faults now ≡ faults was)
    → AreQuiet faults old new
quiet_of {faults = faults} old new save snaps banks Save was now before after =
    sym (ap faults (same_Some _ _ after)) ∙ save ∙ ap faults (same_Some _ _ before)
quiet_of {faults = faults} old new save snaps banks Snaps was now before after =
    sym (ap faults (same_Some _ _ after)) ∙ snaps ∙ ap faults (same_Some _ _ before)
quiet_of old new save snaps banks (Bank n) was now before after = banks n was now before after

-- something that is there is one thing
pub some_of : {X : Type 0} (o : Option X) → IsSome o → (x : X) × (o ≡ Some x)
some_of None is = absurd (cc is)
some_of (Some x) is = (x, refl)

-- a log file of a whole database is one of each other whole database
pub bank_there : {D : Type 0} {old new : Vault D} → IsWhole old → IsWhole new → (n : ℕ) (bank : D) → disk_in new (Bank n)
    ≡ Some bank
    → (was : D) × (disk_in old (Bank n) ≡ Some was)
bank_there {old = old} {new = new} whole still n bank there =
    elim (cases_lt n 16) [
      | inl below ↦ some_of (disk_in old (Bank n)) (whole_bank whole n below)
      | inr past ↦ absurd (cc (there, whole_ends still n past))
    ]

module _ {D : Type 0} {tells : D → Option (List ℕ)} {clock : D → ℕ} {image_at : D → ℕ → List ℕ → Type 0} {faults : D
    → ℕ} where
  -- no call of a device
  pub reads_none : (disk : D) → OnlyReads tells clock image_at faults disk disk
  reads_none disk = record {
    told = refl;
    moments = record {
      later = omega arith;
      kept = λ m c le left. left;
      no_new = λ m c le left. left;
      from = λ m c gt le left. absurd (omega arith);
    };
    later = omega arith;
  }

  -- no call of any
  pub vault_reads_none : (vault : Vault D) → VaultOnlyReads tells clock image_at faults vault vault
  vault_reads_none vault = record {
    each = λ device was there. (was, there, reads_none was);
    even = refl;
    odd = refl;
    ties = refl;
    cuts = refl;
  }

  -- such calls, one after another
  pub vault_reads_then : {old mid new : Vault D} → VaultOnlyReads tells clock image_at faults old mid
      → VaultOnlyReads tells clock image_at faults mid new → VaultOnlyReads tells clock image_at faults old new
  vault_reads_then first next = record {
    each = λ device was there.
        let one = first.each device was there in
        let two = next.each device one.0 one.1 in
        (two.0, two.1, reads_then one.2 two.2);
    even = next.even ∙ first.even;
    odd = next.odd ∙ first.odd;
    ties = next.ties ∙ first.ties;
    cuts = next.cuts ∙ first.cuts;
  }

  -- a whole database stays whole
  pub whole_read : {old new : Vault D} → VaultOnlyReads tells clock image_at faults old new → IsWhole old → IsWhole new
  whole_read reads whole = record { even = reads.even ∙ whole.even; odd = reads.odd ∙ whole.odd }

  -- what each device tells stays
  pub told_read : {old new : Vault D} {found : Images} → VaultOnlyReads tells clock image_at faults old new
      → IsWhole old
      → AreTold tells (parts_of old) found → AreTold tells (parts_of new) found
  told_read {old = old} {new = new} {found = found} reads whole told =
      let save = reads.each Save old.save refl in
      let snaps = reads.each Snaps old.snaps refl in
      record {
        save = ap tells (same_Some _ _ save.1) ∙ save.2.told ∙ told.save;
        snaps = ap tells (same_Some _ _ snaps.1) ∙ snaps.2.told ∙ told.snaps;
        bank = λ n bank there.
            let was = bank_there whole (whole_read reads whole) n bank there in
            let now = reads.each (Bank n) was.0 was.1 in
            ap tells (same_Some _ _ (sym there ∙ now.1)) ∙ now.2.told ∙ told.bank n was.0 was.1;
      }

  -- a count that rose in later calls rose in all
  pub rose_later : {old mid : Vault D} (new : Vault D) (device : Device)
      → VaultOnlyReads tells clock image_at faults old mid
      → IsSome (disk_in old device) → RoseIn faults device mid new → RoseIn faults device old new
  rose_later {old = old} new device reads there rose =
      let was = some_of (disk_in old device) there in
      let mid = reads.each device was.0 was.1 in
      let same : rose.0 ≡ mid.0 = same_Some _ _ (sym rose.2 ∙ mid.1) in
      (was.0, rose.1, was.1, rose.3, omega (arith, mid.2.later, ap faults same, rose.4))

  -- a device that is there was there before
  pub was_there : {old mid : Vault D} → VaultOnlyReads tells clock image_at faults old mid → IsWhole old
      → (device : Device) (now : D)
      → disk_in mid device ≡ Some now → (was : D) × (disk_in old device ≡ Some was)
  was_there {old = old} reads whole Save now there = (old.save, refl)
  was_there {old = old} reads whole Snaps now there = (old.snaps, refl)
  was_there {old = old} reads whole (Bank n) now there = bank_there whole (whole_read reads whole) n now there

  -- so a count that rose in later calls of a whole database rose in all
  pub rose_then : {old mid : Vault D} (new : Vault D) (device : Device)
      → VaultOnlyReads tells clock image_at faults old mid → IsWhole old
      → RoseIn faults device mid new → RoseIn faults device old new
  rose_then new device reads whole rose =
      let was = was_there reads whole device rose.0 rose.2 in
      rose_later new device reads (ap is_some was.1) rose

  -- what stands in front of the snapshots stays
  pub holds_read : {old new : Vault D} (pages : List Page) → VaultOnlyReads tells clock image_at faults old new
      → HoldsPages tells old.snaps pages → HoldsPages tells new.snaps pages
  holds_read {old = old} pages reads holds bytes told =
      let now = reads.each Snaps old.snaps refl in
      holds bytes (sym (ap tells (same_Some _ _ now.1) ∙ now.2.told) ∙ told)

  -- and so does the newest savepoint
  pub stored_read : {old new : Vault D} (newest : Option Savepoint)
      → VaultOnlyReads tells clock image_at faults old new
      → IsStored tells clock image_at old.save newest → IsStored tells clock image_at new.save newest
  stored_read {old = old} {new = new} newest reads stored bytes told =
      let now = reads.each Save old.save refl in
      let same : new.save ≡ now.0 = same_Some _ _ now.1 in
      let left = stored bytes (sym (ap tells same ∙ now.2.told) ∙ told) in
      record {
        only = λ c image.
            elim (left_after c now.2.moments (subst (λ d. image_at d (clock d) c) same image)) [
              | inl before ↦ left.only c before
              | inr within ↦ sym within.2 ∙ left.only within.0 within.1
            ];
        names = left.names;
      }

  -- counts that stood still in two calls stood still in both together
  pub quiet_then : {old mid : Vault D} (new : Vault D) → VaultOnlyReads tells clock image_at faults old mid
      → AreQuiet faults old mid → AreQuiet faults mid new → AreQuiet faults old new
  quiet_then new reads first next device was now before after =
      let mid = reads.each device was before in
      next device mid.0 now mid.1 after ∙ first device was mid.0 before mid.1

  -- the save was read, and nothing else was done
  save_each : (old new : Vault D) → OnlyReads tells clock image_at faults old.save new.save → new.snaps ≡ old.snaps
      → new.even ≡ old.even
      → new.odd ≡ old.odd → (device : Device) (was : D) → disk_in old device ≡ Some was
      → (now : D) × (disk_in new device ≡ Some now) × OnlyReads tells clock image_at faults was now
  save_each old new reads snaps even odd Save was there =
      (new.save, refl, subst (λ d. OnlyReads tells clock image_at faults d new.save) (same_Some _ _ there) reads)
  save_each old new reads snaps even odd Snaps was there = (was, ap Some snaps ∙ there, reads_none was)
  save_each old new reads snaps even odd (Bank n) was there = (was, rw (even, odd) there, reads_none was)

  pub save_read : {old new : Vault D} → OnlyReads tells clock image_at faults old.save new.save → new.snaps ≡ old.snaps
      → new.even ≡ old.even
      → new.odd ≡ old.odd → new.ties ≡ old.ties → new.cuts ≡ old.cuts
      → VaultOnlyReads tells clock image_at faults old new
  save_read {old = old} {new = new} reads snaps even odd ties cuts = record {
    each = save_each old new reads snaps even odd;
    even = ap (λ l. length l.items) even;
    odd = ap (λ l. length l.items) odd;
    ties = ties;
    cuts = cuts;
  }

  -- the snapshots were
  snaps_each : (old new : Vault D) → OnlyReads tells clock image_at faults old.snaps new.snaps → new.save ≡ old.save
      → new.even ≡ old.even
      → new.odd ≡ old.odd → (device : Device) (was : D) → disk_in old device ≡ Some was
      → (now : D) × (disk_in new device ≡ Some now) × OnlyReads tells clock image_at faults was now
  snaps_each old new reads save even odd Snaps was there =
      (new.snaps, refl, subst (λ d. OnlyReads tells clock image_at faults d new.snaps) (same_Some _ _ there) reads)
  snaps_each old new reads save even odd Save was there = (was, ap Some save ∙ there, reads_none was)
  snaps_each old new reads save even odd (Bank n) was there = (was, rw (even, odd) there, reads_none was)

  pub snaps_read : {old new : Vault D} → OnlyReads tells clock image_at faults old.snaps new.snaps → new.save
      ≡ old.save → new.even ≡ old.even
      → new.odd ≡ old.odd → new.ties ≡ old.ties → new.cuts ≡ old.cuts
      → VaultOnlyReads tells clock image_at faults old new
  snaps_read {old = old} {new = new} reads save even odd ties cuts = record {
    each = snaps_each old new reads save even odd;
    even = ap (λ l. length l.items) even;
    odd = ap (λ l. length l.items) odd;
    ties = ties;
    cuts = cuts;
  }
