-- The save, the snapshots and the log files are all devices.
use Rattle.std.proofs.Common.{◌≡◌, ◌⊎◌, ◌∙◌, inl, inr, Some, ap, refl, subst, sym}
use Rattle.std.proofs.lemmas.Bool.{cases_lt}
use Rattle.outside.specs.declared.device.Device.{Device}
use Rattle.outside.specs.declared.device.Device.TheVariants.{Save, Snaps, Bank}
use Rattle.log_writer.specs.Cuts.{whole_ends}
use Rattle.log_writer.specs.Vault.{IsWhole, disk_in}
use Rattle.log_writer.specs.declared.vault.Vault.{Vault}
use Rattle.joint_crashes.specs.Banks.{all_banks, all_below, has_all}
use Rattle.joint_crashes.specs.Syncs.{IsBankIn, first_fault, syncs_all, syncs_then}
use Rattle.joint_crashes.specs.Synced.{SyncsAll}
use Rattle.joint_crashes.specs.VaultReads.{whole_read}
use Rattle.joint_crashes.proofs.syncing.sync_all.Goals as goal

-- each device of a whole database is one of these
each : {D : Type 0} {vault : Vault D} → IsWhole vault → (device : Device) (now : D) → disk_in vault device ≡ Some now
    → ((device ≡ Save) ⊎ (device ≡ Snaps)) ⊎ IsBankIn all_banks device
each whole Save now there = inl (inl refl)
each whole Snaps now there = inl (inr refl)
each whole (Bank n) now there = elim (cases_lt n 16) [
  | inl below ↦ inr (n, has_all n below, refl)
  | inr past ↦ absurd (cc (there, whole_ends whole n past))
]

pub sync_device-snaps-requires-clause-whole : goal.sync_device-snaps-requires-clause-whole
sync_device-snaps-requires-clause-whole g c = whole_read c.sync_device-save.ensures.reads c.requires.whole

pub sync_banks-banks-requires-clause-whole : goal.sync_banks-banks-requires-clause-whole
sync_banks-banks-requires-clause-whole g c =
    whole_read c.sync_device-snaps.ensures.reads (whole_read c.sync_device-save.ensures.reads c.requires.whole)

pub sync_banks-banks-requires-clause-numbers : goal.sync_banks-banks-requires-clause-numbers
sync_banks-banks-requires-clause-numbers g c = all_below

pub returns : goal.returns
returns g c =
    let whole = c.requires.whole in
    let first = syncs_then c.sync_device-save.result c.sync_device-snaps.result whole c.sync_device-save.ensures
    c.sync_device-snaps.ensures in
    let all = syncs_then _ c.sync_banks-banks.result whole first c.sync_banks-banks.ensures in
    subst (SyncsAll g.D.Disk.tells g.D.Disk.clock g.D.Disk.image_at g.D.Disk.faults g.D.Disk.settled c.args.vault.now
    c.sync_banks-banks.new.vault)
    (ap (λ r. first_fault r c.sync_banks-banks.result) (sym c.earlier.ensures) ∙ sym c.earlier-2.ensures)
    (syncs_all _ (each (whole_read all.reads whole)) all)
