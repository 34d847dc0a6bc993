-- What is left of a database that was synced, and of which a byte of the save was written again.
use Rattle.std.proofs.Common.{◌≡◌, ◌≢◌, ◌⊎◌, ◌∙◌, inl, inr, ℕ, List, Option, Some, Result, Ok, Err, is_some, sym, ap, refl, subst, arith}
use Rattle.std.proofs.lemmas.Option.{same_Some}
use Rattle.outside.specs.declared.device.Device.{Device}
use Rattle.outside.specs.declared.device.Device.TheVariants.{Save, Snaps, Bank}
use Rattle.outside.specs.Disk.{IfTold, Runs}
use Rattle.outside.specs.Faults.{Rose}
use Rattle.outside.specs.Moments.{runs_call, runs_then, runs_weaker}
use Rattle.outside.specs.Reads.{OnlyReads, reads_then}
use Rattle.wire_form.specs.declared.savepoint.Savepoint.{Savepoint}
use Rattle.log_writer.specs.declared.vault.Vault.{Vault}
use Rattle.log_writer.specs.Save.{Names}
use Rattle.log_writer.specs.Vault.{disk_in}
use Rattle.joint_crashes.specs.Synced.{KeepsSavepoint, SyncsAll, TakesOver}
use Rattle.joint_crashes.specs.VaultReads.{AreQuiet, VaultOnlyReads}

-- the database with that save
abbrev pub with_save : {D : Type 0} → D → Vault D → Vault D
with_save save vault = record {
  save = save;
  snaps = vault.snaps;
  even = vault.even;
  odd = vault.odd;
  ties = vault.ties;
  cuts = vault.cuts;
}

-- the counts of all devices stand still where those of the save do
quiet_with : {D : Type 0} {faults : D → ℕ} (old mid : Vault D) (save : D) → AreQuiet faults old mid
    → faults save ≡ faults mid.save → AreQuiet faults old (with_save save mid)
quiet_with {faults = faults} old mid save quiet same Save was now before after =
    ap faults (sym (same_Some _ _ after)) ∙ same ∙ quiet Save was mid.save before refl
quiet_with old mid save quiet same Snaps was now before after = quiet Snaps was now before after
quiet_with old mid save quiet same (Bank n) was now before after = quiet (Bank n) was now before after

module _ {D : Type 0} {tells : D → Option (List ℕ)} {clock : D → ℕ} {image_at : D → ℕ → List ℕ → Type 0} {faults : D → ℕ} where
  -- the save was read with the others
  save_of : {old mid : Vault D} → VaultOnlyReads tells clock image_at faults old mid
      → OnlyReads tells clock image_at faults old.save mid.save
  save_of {old = old} {mid = mid} reads =
      let it = reads.each Save old.save refl in
      subst (λ d. OnlyReads tells clock image_at faults old.save d) (sym (same_Some mid.save it.0 it.1)) it.2

  -- looks leave each image that there was
  looks_leave : {old mid : D} (newest : Option Savepoint) → OnlyReads tells clock image_at faults old mid
      → Runs clock image_at old mid (λ left. image_at old (clock old) left ⊎ Names left newest)
  looks_leave {old = old} newest reads = runs_call (λ d c was is. inl (subst (image_at old (clock old)) is was)) reads.moments

  kept_read : {old mid : D} → OnlyReads tells clock image_at faults old mid
      → KeepsSavepoint tells clock image_at faults old mid
  kept_read reads = record {
    told = ap is_some reads.told;
    any_moment = λ newest file told names. looks_leave newest reads;
    unnamed = λ file told none. reads;
  }

  -- and so does the byte that is written again
  kept_again : {old mid new : D} → OnlyReads tells clock image_at faults old mid → is_some (tells new) ≡ is_some (tells mid)
      → ((newest : Option Savepoint) → IfTold (tells mid) (λ file. Names file newest
      → Runs clock image_at mid new (λ left. Names left newest)))
      → IfTold (tells mid) (λ file. ((newest : Option Savepoint) → Names file newest → ⊥)
      → OnlyReads tells clock image_at faults mid new)
      → KeepsSavepoint tells clock image_at faults old new
  kept_again reads same again unnamed = record {
    told = same ∙ ap is_some reads.told;
    any_moment = λ newest file told names. runs_then (looks_leave newest reads)
        (runs_weaker (λ c is. inr is) (again newest file (reads.told ∙ told) names));
    unnamed = λ file told none. reads_then reads (unnamed file (reads.told ∙ told) none);
  }

  other_read : {old mid : Vault D} (save : D) → VaultOnlyReads tells clock image_at faults old mid → (device : Device) → device ≢ Save → (was : D)
      → disk_in old device ≡ Some was
      → (now : D) × (disk_in (with_save save mid) device ≡ Some now) × OnlyReads tells clock image_at faults was now
  other_read save reads Save differs was there = absurd (differs refl)
  other_read save reads Snaps differs was there = reads.each Snaps was there
  other_read save reads (Bank n) differs was there = reads.each (Bank n) was there

  -- the byte is written again behind syncs
  pub kept_behind : {old mid : Vault D} {save : D} → VaultOnlyReads tells clock image_at faults old mid → is_some (tells save) ≡ is_some (tells mid.save)
      → ((newest : Option Savepoint) → IfTold (tells mid.save) (λ file. Names file newest
      → Runs clock image_at mid.save save (λ left. Names left newest)))
      → IfTold (tells mid.save) (λ file. ((newest : Option Savepoint) → Names file newest → ⊥)
      → OnlyReads tells clock image_at faults mid.save save)
      → KeepsSavepoint tells clock image_at faults old.save save
  kept_behind reads same again unnamed = kept_again (save_of reads) same again unnamed

module _ {D : Type 0} {tells : D → Option (List ℕ)} {clock : D → ℕ} {image_at : D → ℕ → List ℕ → Type 0} {faults : D → ℕ}
    {settled : D → Type 0} where
  -- a device couldn't be synced
  pub unsynced : {old mid : Vault D} (result : Result (Unit {0}) Device) (device : Device) → result ≡ Err device
      → (let answer : Result (Unit {0}) Device = Err device in SyncsAll tells clock image_at faults settled old mid answer)
      → TakesOver tells clock image_at faults settled old mid result
  unsynced {old = old} {mid = mid} (Ok done) device is syncs = absurd cc
  unsynced {old = old} {mid = mid} (Err other) device is syncs =
      let same : other ≡ device = cc in record {
        save = kept_read (save_of syncs.reads);
        others = λ d differs was there. syncs.reads.each d was there;
        even = syncs.reads.even;
        odd = syncs.reads.odd;
        ties = syncs.reads.ties;
        cuts = syncs.reads.cuts;
        told = tt;
        synced = tt;
        quiet = tt;
        failed = rw same syncs.failed;
        unwritten = λ differs. save_of syncs.reads;
      }

  -- all was done
  pub taken : {old mid : Vault D} (save : D) (done both : Unit {0})
      → (let answer : Result (Unit {0}) Device = Ok done in SyncsAll tells clock image_at faults settled old mid answer)
      → KeepsSavepoint tells clock image_at faults old.save save → settled save → tells save ≡ tells mid.save
      → faults save ≡ faults mid.save
      → let answer : Result (Unit {0}) Device = Ok both in
      TakesOver tells clock image_at faults settled old (with_save save mid) answer
  taken {old = old} {mid = mid} save done both syncs keeps rests told quiet = record {
    save = keeps;
    others = other_read save syncs.reads;
    even = syncs.reads.even;
    odd = syncs.reads.odd;
    ties = syncs.reads.ties;
    cuts = syncs.reads.cuts;
    told = told ∙ (save_of syncs.reads).told;
    synced = record { save = rests; snaps = syncs.synced.snaps; bank = syncs.synced.bank };
    quiet = quiet_with old mid save syncs.quiet quiet;
    failed = tt;
    unwritten = tt;
  }

  -- the byte couldn't be written again
  pub unwritten : {old mid : Vault D} (save : D) (done : Unit {0})
      → (let answer : Result (Unit {0}) Device = Ok done in SyncsAll tells clock image_at faults settled old mid answer)
      → KeepsSavepoint tells clock image_at faults old.save save → Rose (faults mid.save) (faults save)
      → let answer : Result (Unit {0}) Device = Err Save in
      TakesOver tells clock image_at faults settled old (with_save save mid) answer
  unwritten {old = old} save done syncs keeps rose = record {
    save = keeps;
    others = other_read save syncs.reads;
    even = syncs.reads.even;
    odd = syncs.reads.odd;
    ties = syncs.reads.ties;
    cuts = syncs.reads.cuts;
    told = tt;
    synced = tt;
    quiet = tt;
    failed = (old.save, save, refl, refl, (let later = (save_of syncs.reads).later in omega (arith, rose, later)));
    unwritten = λ differs. absurd (differs refl);
  }
