-- What the mapping of a log file says of the database's devices.
use Rattle.std.proofs.Common.{◌≡◌, ◌≢◌, ℕ, ◌<◌, List, Option, Some, inl, inr, sym, ap, subst, ◌∙◌}
use Rattle.std.specs.Prelude.{Result, Ok, Err}
use Rattle.std.proofs.lemmas.Bool.{cases_eq}
use Rattle.std.proofs.lemmas.Option.{same_Some}
use Rattle.lists.specs.declared.memory.OrMemory.{OrMemory}
use Rattle.lists.specs.declared.memory.OrMemory.TheVariants.{Fault}
use Rattle.log_mapper.specs.Mapped.{AreMapped, IsDamaged}
use Rattle.log_mapper.specs.declared.map_file.MapFault.{MapFault}
use Rattle.log_mapper.specs.declared.map_file.MapFault.TheVariants.{Device as Failed, Damaged}
use Rattle.log_writer.specs.Cuts.{whole_bank}
use Rattle.outside.specs.Reads.{OnlyReads}
use Rattle.log_writer.specs.Vault.{disk_in, IsWhole}
use Rattle.outside.specs.declared.device.Device.{Device}
use Rattle.outside.specs.declared.device.Device.TheVariants.{Save, Snaps, Bank}
use Rattle.log_writer.specs.declared.vault.Vault.{Vault}
use Rattle.serial_model.specs.declared.decl.Decl.{Decl}
use Rattle.wire_form.specs.declared.bucket.Bucket.{Bucket}
use Rattle.recovery_core.specs.EntriesRead.{MapsIn}
use Rattle.joint_crashes.specs.Images.{Images}
use Rattle.joint_crashes.specs.JointCrash.{parts_of}
use Rattle.joint_crashes.specs.Resting.{AreTold}
use Rattle.joint_crashes.specs.VaultReads.{VaultOnlyReads, RoseIn, AreQuiet, some_of, reads_none, whole_read}
use Rattle.joint_crashes.specs.VaultReads.{told_read, rose_later}

banks_differ : (m n : ℕ) → m ≢ n → Bank m ≢ Bank n
banks_differ m n differ same = differ cc

save_differs : (n : ℕ) → Save ≢ Bank n
save_differs n same = cc

snaps_differ : (n : ℕ) → Snaps ≢ Bank n
snaps_differ n same = cc

module _ {D : Type 0} {tells : D → Option (List ℕ)} {clock : D → ℕ} {image_at : D → ℕ → List ℕ → Type 0}
    {faults : D → ℕ} where
  -- the log file is there
  bank_of : (first old : Vault D) (n : ℕ) → IsWhole first → VaultOnlyReads tells clock image_at faults first old
      → n < 16
      → (was : D) × (disk_in old (Bank n) ≡ Some was)
  bank_of first old n whole reads below = some_of (disk_in old (Bank n)) (whole_bank (whole_read reads whole) n below)

module _ {D : Type 0} {tells : D → Option (List ℕ)} {clock : D → ℕ} {image_at : D → ℕ → List ℕ → Type 0}
    {faults : D → ℕ}
    {n count : ℕ} {decls : List Decl} {from to : ℕ} {old new : Vault D}
    {result : Result (List Bucket) (OrMemory MapFault)} where
  maps_each : MapsIn tells clock image_at faults n count decls from to old new result
      → (device : Device) (was : D) → disk_in old device ≡ Some was
      → (now : D) × (disk_in new device ≡ Some now) × OnlyReads tells clock image_at faults was now
  maps_each maps Save was there = (was, maps.others Save (save_differs n) ∙ there, reads_none was)
  maps_each maps Snaps was there = (was, maps.others Snaps (snaps_differ n) ∙ there, reads_none was)
  maps_each maps (Bank m) was there = elim (cases_eq m n) [
    | inl same ↦
        let one = maps.disk was (subst (λ k. disk_in old (Bank k) ≡ Some was) same there) in
        (one.0, subst (λ k. disk_in new (Bank k) ≡ Some one.0) (sym same) one.1, one.2.reads)
    | inr differ ↦ (was, maps.others (Bank m) (banks_differ m n differ) ∙ there, reads_none was)
  ]

  -- the database was only read
  pub maps_reads : MapsIn tells clock image_at faults n count decls from to old new result
      → VaultOnlyReads tells clock image_at faults old new
  maps_reads maps = record {
    each = maps_each maps;
    even = maps.even;
    odd = maps.odd;
    ties = maps.ties;
    cuts = maps.cuts;
  }

  -- the first byte that is no line is told of what the log file was found to have
  pub maps_damaged : (first : Vault D) (found : Images) (at : ℕ)
      → MapsIn tells clock image_at faults n count decls from to old new result → IsWhole first
      → VaultOnlyReads tells clock image_at faults first old → n < 16
      → AreTold tells (parts_of first) found → result ≡ Err (Fault (Damaged at))
      → IsDamaged count decls (found.bank n) at
  maps_damaged first found at maps whole reads below told is =
      let was = bank_of first old n whole reads below in
      (maps.disk was.0 was.1).2.damaged at is (found.bank n) ((told_read reads whole told).bank n was.0 was.1)

  -- a failure is of the log file
  pub maps_rose : (first : Vault D) → MapsIn tells clock image_at faults n count decls from to old new result
      → IsWhole first → VaultOnlyReads tells clock image_at faults first old → n < 16
      → result ≡ Err (Fault Failed) → RoseIn faults (Bank n) first new
  maps_rose first maps whole reads below is =
      let was = bank_of first old n whole reads below in
      let one = maps.disk was.0 was.1 in
      rose_later new (Bank n) reads (whole_bank whole n below) (was.0, one.0, was.1, one.1, one.2.device is)

  -- no count of faults rose, where it isn't told to have failed
  pub maps_spared : MapsIn tells clock image_at faults n count decls from to old new result
      → result ≢ Err (Fault Failed) → AreQuiet faults old new
  maps_spared maps spared Save was now before after =
      ap faults (same_Some _ _ (sym after ∙ maps.others Save (save_differs n) ∙ before))
  maps_spared maps spared Snaps was now before after =
      ap faults (same_Some _ _ (sym after ∙ maps.others Snaps (snaps_differ n) ∙ before))
  maps_spared maps spared (Bank m) was now before after = elim (cases_eq m n) [
    | inl same ↦
        let one = maps.disk was (subst (λ k. disk_in old (Bank k) ≡ Some was) same before) in
        ap faults (same_Some _ _ (sym after ∙ subst (λ k. disk_in new (Bank k) ≡ Some one.0) (sym same) one.1))
        ∙ one.2.spared spared
    | inr differ ↦ ap faults (same_Some _ _ (sym after ∙ maps.others (Bank m) (banks_differ m n differ) ∙ before))
  ]

module _ {D : Type 0} {tells : D → Option (List ℕ)} {clock : D → ℕ} {image_at : D → ℕ → List ℕ → Type 0}
    {faults : D → ℕ}
    {n count : ℕ} {decls : List Decl} {from to : ℕ} {old new : Vault D} {buckets : List Bucket} where
  -- the buckets are those of what the log file was found to have
  pub maps_found : (first : Vault D) (found : Images)
      → MapsIn tells clock image_at faults n count decls from to old new (Ok buckets) → IsWhole first
      → VaultOnlyReads tells clock image_at faults first old → n < 16
      → AreTold tells (parts_of first) found → AreMapped n count decls from to (found.bank n) buckets
  maps_found first found maps whole reads below told =
      let was = bank_of first old n whole reads below in
      (maps.disk was.0 was.1).2.mapped (found.bank n) ((told_read reads whole told).bank n was.0 was.1)

  -- no count of faults rose
  pub maps_quiet : MapsIn tells clock image_at faults n count decls from to old new (Ok buckets)
      → AreQuiet faults old new
  maps_quiet maps = maps_spared maps (λ is. cc)
