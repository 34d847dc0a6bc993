use Rattle.std.proofs.Common.{◌≡◌, ℕ, List, Option, None, sym, subst, ◌∙◌}
use Rattle.std.specs.Prelude.{Result, IfOk, IfSome}
use Rattle.std.proofs.lemmas.Result.{IfOk-weaker, err_from_is_err_and}
use Rattle.outside.specs.Disk.{IfTold, Only}
use Rattle.log_writer.specs.declared.vault.Vault.{Vault}
use Rattle.log_writer.specs.declared.saved.Saved.{Saved}
use Rattle.log_writer.specs.Points.{IsSaved, SaveState}
use Rattle.log_writer.specs.Save.{Names, IsStored}
use Rattle.joint_crashes.specs.Images.{Images}
use Rattle.joint_crashes.specs.JointCrash.{parts_of}
use Rattle.recovery_core.specs.Recovered.{Recovers}
use Rattle.joint_crashes.specs.Resting.{AreTold}
use Rattle.recovery_core.specs.declared.recovered.Recovered.{Recovered}
use Rattle.joint_crashes.specs.VaultReads.{VaultOnlyReads, stored_read, told_read, whole_read}
use Rattle.recovery_core.specs.Damage.{IsDamagedIn}
use Rattle.recovery_core.specs.ReadsDevices.{devices_then}
use Rattle.recovery_core.proofs.Exits.{handed_on, not_err, reads_handed_on}
use Rattle.recovery_core.proofs.Recovering.{says_none, before_save, before_snaps}
use Rattle.recovery_core.proofs.recovery.recover.Goals as goal

-- what was stored of the savepoint that was found is stored after further reads
stored_ok : {D E : Type 0} {tells : D → Option (List ℕ)} {clock : D → ℕ} {image_at : D → ℕ → List ℕ → Type 0}
    {faults : D → ℕ} {mid new : Vault D} (was : D) (result : Result Recovered E) (save : SaveState)
    → VaultOnlyReads tells clock image_at faults mid new
    → (IfTold (tells was) (Only clock image_at was) → IsStored tells clock image_at mid.save save.newest)
    → IfOk result (λ r. r.save ≡ save)
    → IfOk result (λ r. IfTold (tells was) (Only clock image_at was)
    → IsStored tells clock image_at new.save r.save.newest)
stored_ok {tells = tells} {clock = clock} {image_at = image_at} {new = new} was result save reads stored same =
    IfOk-weaker result (λ r. r.save ≡ save) (λ r. IfTold (tells was) (Only clock image_at was)
    → IsStored tells clock image_at new.save r.save.newest)
    (λ r is only. subst (λ (s : SaveState). IsStored tells clock image_at new.save s.newest) (sym is)
    (stored_read save.newest reads (stored only))) same

pub returns-in-None-clause-recovers : goal.returns-in-None-clause-recovers
returns-in-None-clause-recovers g c =
    let none = says_none c.in_ok-save.save.newest (sym c.in-None.is ∙ c.in_ok-save.ensures.found.says) in
    IfOk-weaker c.recover_fresh.result (λ r. (found : Images) → Names found.save None → Recovers found r)
    (λ r. (found : Images) → AreTold g.D.Disk.tells (parts_of c.args.vault.now) found → Recovers found r)
    (λ r is found told. is found
    (subst (Names found.save) none (c.in_ok-save.ensures.found.names found.save told.save)))
    c.recover_fresh.ensures.recovers

pub returns-in-None-clause-stored : goal.returns-in-None-clause-stored
returns-in-None-clause-stored g c = stored_ok c.args.vault.now.save c.recover_fresh.result
    c.in_ok-save.save c.recover_fresh.ensures.devices.reads
    c.in_ok-save.ensures.found.stored c.recover_fresh.ensures.save

pub returns-in-None-clause-damaged : goal.returns-in-None-clause-damaged
returns-in-None-clause-damaged g c device at same found told =
    absurd (c.recover_fresh.ensures.damaged device at same found.snaps
    (told_read c.load_save.ensures.devices.reads c.requires.whole told).snaps)

pub returns-in-None-clause-before : goal.returns-in-None-clause-before
returns-in-None-clause-before g c device same found told =
    before_snaps found c.in_ok-save.save.newest device (c.recover_fresh.ensures.only device same)
    (c.in_ok-save.ensures.found.names found.save told.save)

pub returns-in-Some-clause-recovers : goal.returns-in-Some-clause-recovers
returns-in-Some-clause-recovers g c =
    IfOk-weaker c.recover_saved.result
    (λ r. (found : Images) → AreTold g.D.Disk.tells (parts_of c.load_save.new.vault) found
    → Names found.save c.in_ok-save.save.newest → Recovers found r)
    (λ r. (found : Images) → AreTold g.D.Disk.tells (parts_of c.args.vault.now) found → Recovers found r)
    (λ r is found told. is found (told_read c.load_save.ensures.devices.reads c.requires.whole told)
    (c.in_ok-save.ensures.found.names found.save told.save))
    c.recover_saved.ensures.recovers

pub returns-in-Some-clause-stored : goal.returns-in-Some-clause-stored
returns-in-Some-clause-stored g c = stored_ok c.args.vault.now.save c.recover_saved.result
    c.in_ok-save.save c.recover_saved.ensures.devices.reads
    c.in_ok-save.ensures.found.stored c.recover_saved.ensures.save

pub returns-in-Some-clause-damaged : goal.returns-in-Some-clause-damaged
returns-in-Some-clause-damaged g c device at same found told =
    c.recover_saved.ensures.damaged device at same found (told_read c.load_save.ensures.devices.reads c.requires.whole told)
    (c.in_ok-save.ensures.found.names found.save told.save)

pub returns-in-Some-clause-before : goal.returns-in-Some-clause-before
returns-in-Some-clause-before g c device same found told =
    c.recover_saved.ensures.before device same found (told_read c.load_save.ensures.devices.reads c.requires.whole told)
    (c.in_ok-save.ensures.found.names found.save told.save)

pub returns-in_err-save-clause-before : goal.returns-in_err-save-clause-before
returns-in_err-save-clause-before g c device same found told =
    let p = err_from_is_err_and c.from_residual.result c.from_residual.ensures.1 in
    before_save found device (c.in_err-save.ensures.only device (handed_on _ _ _ p.0 p.1 p.2 same))

pub returns-in_err-save-clause-damaged : goal.returns-in_err-save-clause-damaged
returns-in_err-save-clause-damaged g c device at same found told =
    let p = err_from_is_err_and c.from_residual.result c.from_residual.ensures.1 in
    let broken = c.in_err-save.ensures.damaged device at (handed_on _ _ _ p.0 p.1 p.2 same) in
    subst (λ d. IsDamagedIn found d at) (sym broken.0) (broken.1 found.save told.save)

pub returns-in_err-save-clause-devices : goal.returns-in_err-save-clause-devices
returns-in_err-save-clause-devices g c =
    let p = err_from_is_err_and c.from_residual.result c.from_residual.ensures.1 in
    reads_handed_on c.from_residual.result _ p.0 p.1 p.2 c.in_err-save.ensures.devices

pub returns-in-None-clause-devices : goal.returns-in-None-clause-devices
returns-in-None-clause-devices g c = devices_then c.requires.whole (λ device is. not_err _ _ is)
    c.in_ok-save.ensures.devices c.recover_fresh.ensures.devices

pub returns-in-Some-clause-devices : goal.returns-in-Some-clause-devices
returns-in-Some-clause-devices g c = devices_then c.requires.whole (λ device is. not_err _ _ is)
    c.in_ok-save.ensures.devices c.recover_saved.ensures.devices

-- ---- what the calls ask

pub recover_fresh-requires-clause-fresh : goal.recover_fresh-requires-clause-fresh
recover_fresh-requires-clause-fresh g c =
    says_none c.in_ok-save.save.newest (sym c.in-None.is ∙ c.in_ok-save.ensures.found.says)

pub recover_fresh-requires-clause-up : goal.recover_fresh-requires-clause-up
recover_fresh-requires-clause-up g c = c.in_ok-save.ensures.found.up

pub recover_saved-requires-clause-whole : goal.recover_saved-requires-clause-whole
recover_saved-requires-clause-whole g c = whole_read c.load_save.ensures.devices.reads c.requires.whole

pub recover_saved-requires-clause-says : goal.recover_saved-requires-clause-says
recover_saved-requires-clause-says g c = sym c.in-Some.is ∙ c.in_ok-save.ensures.found.says

pub recover_saved-requires-clause-saved : goal.recover_saved-requires-clause-saved
recover_saved-requires-clause-saved g c =
    subst (λ (o : Option Saved). IfSome o IsSaved) c.in-Some.is c.in_ok-save.ensures.found.ranges

pub recover_saved-requires-clause-up : goal.recover_saved-requires-clause-up
recover_saved-requires-clause-up g c = c.in_ok-save.ensures.found.up

-- ---- what the calls answer

pub returns-in-None-clause-up : goal.returns-in-None-clause-up
returns-in-None-clause-up g c = c.recover_fresh.ensures.up

pub returns-in-None-clause-holds : goal.returns-in-None-clause-holds
returns-in-None-clause-holds g c = c.recover_fresh.ensures.holds

pub returns-in-Some-clause-up : goal.returns-in-Some-clause-up
returns-in-Some-clause-up g c = c.recover_saved.ensures.up

pub returns-in-Some-clause-holds : goal.returns-in-Some-clause-holds
returns-in-Some-clause-holds g c = c.recover_saved.ensures.holds
