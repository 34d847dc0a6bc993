-- Syncs of some devices of a database, one after another.
use Rattle.std.specs.Prelude.{◌≡◌, ◌⊎◌, ◌<◌, ◌+◌, ℕ, List, [], Option, Some, length, take, get_or, Result, Ok, Err, OnOk, IfErr}
use Rattle.std.specs.List.{Contains}
use Rattle.std.proofs.Common.{inl, inr, refl, sym, ap, ◌∙◌, subst, arith}
use Rattle.std.proofs.lemmas.List.{take_more}
use Rattle.std.proofs.lemmas.List.Elements.{Contains-push_cases}
use Rattle.std.proofs.lemmas.Option.{same_Some}
use Rattle.lists.specs.Elements.{in_none}
use Rattle.outside.specs.declared.device.Device.{Device}
use Rattle.outside.specs.declared.device.Device.TheVariants.{Save, Snaps, Bank}
use Rattle.log_writer.specs.declared.vault.Vault.{Vault}
use Rattle.log_writer.specs.Vault.{disk_in, IsWhole}
use Rattle.joint_crashes.specs.Synced.{SyncsAll}
use Rattle.joint_crashes.specs.VaultReads.{AreQuiet, RoseIn, VaultOnlyReads, quiet_then, rose_then, vault_reads_none, vault_reads_then, was_there, whole_read}

-- a log file of one of these numbers
abbrev pub IsBankIn : List ℕ → Device → Type 0
IsBankIn numbers device = (n : ℕ) × Contains numbers n × (device ≡ Bank n)

-- of two calls the fault of the first that has one
abbrev pub first_fault : Result (Unit {0}) Device → Result (Unit {0}) Device → Result (Unit {0}) Device
first_fault (Ok done) second = second
first_fault (Err device) second = Err device

-- no log file is one of none
pub none_in : (device : Device) → IsBankIn [] device → ⊥
none_in device is = in_none is.0 is.1

-- and those of one number more are the ones before and that one
pub is_in_more : (numbers : List ℕ) (i : ℕ) → i < length numbers → (device : Device) → IsBankIn (take (i + 1) numbers) device
    → IsBankIn (take i numbers) device ⊎ (device ≡ Bank (get_or numbers i 0))
is_in_more numbers i within device is =
    let more = subst (λ l. Contains l is.0) (take_more numbers i 0 within) is.1 in
    elim (Contains-push_cases (take i numbers) (get_or numbers i 0) is.0 more) [
      | inl before ↦ inl (is.0, before, is.2)
      | inr this ↦ inr (is.2 ∙ sym (ap Bank this))
    ]

-- These devices were synced: after `Ok` nothing is pending of them, nor of those of which nothing was.
pub record SyncsEach {D : Type 0} (tells : D → Option (List ℕ)) (clock : D → ℕ) (image_at : D → ℕ → List ℕ → Type 0)
    (faults : D → ℕ) (settled : D → Type 0) (which : Device → Type 0) (old new : Vault D)
    (result : Result (Unit {0}) Device) : Type 0 where
  pub reads : VaultOnlyReads tells clock image_at faults old new
  pub synced : OnOk result ((device : Device) (now : D) → which device → disk_in new device ≡ Some now → settled now)
  pub stays : OnOk result ((device : Device) (was now : D) → disk_in old device ≡ Some was
      → disk_in new device ≡ Some now → settled was → settled now)
  pub quiet : OnOk result (AreQuiet faults old new)
  pub failed : IfErr result (λ device. RoseIn faults device old new)

module _ {D : Type 0} {tells : D → Option (List ℕ)} {clock : D → ℕ} {image_at : D → ℕ → List ℕ → Type 0} {faults : D → ℕ}
    {settled : D → Type 0} where
  -- no device
  pub syncs_none : (vault : Vault D) (done : Unit {0})
      → SyncsEach tells clock image_at faults settled (λ device. ⊥) vault vault (Ok done)
  syncs_none vault done = record {
    reads = vault_reads_none vault;
    synced = λ device now none. absurd none;
    stays = λ device was now before after rests. subst settled (same_Some _ _ (sym before ∙ after)) rests;
    quiet = λ device was now before after. ap faults (same_Some _ _ (sym after ∙ before));
    failed = tt;
  }

  -- some, and then others
  pub syncs_then : {one other : Device → Type 0} {old mid new : Vault D} (first second : Result (Unit {0}) Device)
      → IsWhole old
      → SyncsEach tells clock image_at faults settled one old mid first
      → SyncsEach tells clock image_at faults settled other mid new second
      → SyncsEach tells clock image_at faults settled (λ device. one device ⊎ other device) old new
      (first_fault first second)
  syncs_then {one = one} {other = other} {old = old} {mid = mid} {new = new} (Ok done) (Ok both) whole a b = record {
    reads = vault_reads_then a.reads b.reads;
    synced = λ device now either after.
        let was = was_there b.reads (whole_read a.reads whole) device now after in
        elim either [
          | inl in_one ↦ b.stays device was.0 now was.1 after (a.synced device was.0 in_one was.1)
          | inr in_other ↦ b.synced device now in_other after
        ];
    stays = λ device was now before after rests.
        let between = a.reads.each device was before in
        b.stays device between.0 now between.1 after (a.stays device was between.0 before between.1 rests);
    quiet = quiet_then new a.reads a.quiet b.quiet;
    failed = tt;
  }
  syncs_then {old = old} {mid = mid} {new = new} (Ok done) (Err device) whole a b = record {
    reads = vault_reads_then a.reads b.reads;
    synced = tt;
    stays = tt;
    quiet = tt;
    failed = rose_then new device a.reads whole b.failed;
  }
  syncs_then {old = old} {mid = mid} {new = new} (Err device) second whole a b = record {
    reads = vault_reads_then a.reads b.reads;
    synced = tt;
    stays = tt;
    quiet = tt;
    failed = rose_before new device b.reads a.failed;
  }
    where
      rose_before : (new : Vault D) (device : Device) → VaultOnlyReads tells clock image_at faults mid new
          → RoseIn faults device old mid → RoseIn faults device old new
      rose_before new device reads rose =
          let now = reads.each device rose.1 rose.3 in
          (rose.0, now.0, rose.2, now.1, (let more = now.2.later in let first = rose.4 in omega (arith, more, first)))

  -- the same devices, named otherwise
  pub syncs_named : {one other : Device → Type 0} {old new : Vault D} (result : Result (Unit {0}) Device)
      → ((device : Device) → other device → one device)
      → SyncsEach tells clock image_at faults settled one old new result
      → SyncsEach tells clock image_at faults settled other old new result
  syncs_named (Ok done) named a = record {
    reads = a.reads;
    synced = λ device now is after. a.synced device now (named device is) after;
    stays = a.stays;
    quiet = a.quiet;
    failed = tt;
  }
  syncs_named (Err device) named a = record { reads = a.reads; synced = tt; stays = tt; quiet = tt; failed = a.failed }

  -- all devices
  pub syncs_all : {which : Device → Type 0} {old new : Vault D} (result : Result (Unit {0}) Device)
      → ((device : Device) (now : D) → disk_in new device ≡ Some now → which device)
      → SyncsEach tells clock image_at faults settled which old new result
      → SyncsAll tells clock image_at faults settled old new result
  syncs_all {new = new} (Ok done) each a = record {
    reads = a.reads;
    synced = record {
      save = a.synced Save new.save (each Save new.save refl) refl;
      snaps = a.synced Snaps new.snaps (each Snaps new.snaps refl) refl;
      bank = λ n bank there. a.synced (Bank n) bank (each (Bank n) bank there) there;
    };
    quiet = a.quiet;
    failed = tt;
  }
  syncs_all (Err device) each a = record { reads = a.reads; synced = tt; quiet = tt; failed = a.failed }
