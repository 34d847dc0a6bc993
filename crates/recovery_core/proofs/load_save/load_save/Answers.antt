use Rattle.std.proofs.Common.{◌∙◌, Err, ap, refl, subst, sym}
use Rattle.outside.specs.declared.device.Device.{Device}
use Rattle.outside.specs.declared.device.Device.TheVariants.{Save}
use Rattle.log_writer.specs.declared.save.SaveOpen.TheVariants.{Damaged as Broken}
use Rattle.joint_crashes.specs.VaultReads.{RoseIn, save_read}
use Rattle.recovery_core.specs.ReadsDevices.{files_quiet}
use Rattle.recovery_core.proofs.Exits.{broken_is_no_fault, damage_is_no_fault, damaged_so, failed_so}
use Rattle.recovery_core.proofs.Exits.{fault_is_no_damage, not_err}
use Rattle.recovery_core.proofs.load_save.load_save.Goals as goal

pub returns-in-Ok-clause-devices : goal.returns-in-Ok-clause-devices
returns-in-Ok-clause-devices g c = record {
  reads = save_read (record {
    told = c.load.ensures.told;
    moments = c.load.ensures.moments;
    later = c.load.ensures.faults.later;
  }) refl refl refl refl refl;
  device = λ device is. absurd (not_err _ _ is);
  spared = λ not. files_quiet g.D.Disk.faults c.args.vault.now (record c.args.vault.now { save = c.load.new.disk })
      (c.in-Ok.ensures.faults.quiet (λ same. not_err _ _ same)) refl refl refl;
}

pub returns-in-Err-Device-clause-devices : goal.returns-in-Err-Device-clause-devices
returns-in-Err-Device-clause-devices g c = record {
  reads = save_read (record {
    told = c.load.ensures.told;
    moments = c.load.ensures.moments;
    later = c.load.ensures.faults.later;
  }) refl refl refl refl refl;
  device = λ device is.
      subst (λ (d : Device). RoseIn g.D.Disk.faults d c.args.vault.now
      (record c.args.vault.now { save = c.load.new.disk })) (failed_so Save device is) (
        c.args.vault.now.save,
        c.load.new.disk,
        refl,
        refl,
        c.in-Err-Device.ensures.faults.device
            (ap Err c.in-Err-Device.field-0-is),
      );
  spared = λ not. absurd (not Save refl);
}

pub returns-in-Err-Damaged-clause-devices : goal.returns-in-Err-Damaged-clause-devices
returns-in-Err-Damaged-clause-devices g c = record {
  reads = save_read (record {
    told = c.load.ensures.told;
    moments = c.load.ensures.moments;
    later = c.load.ensures.faults.later;
  }) refl refl refl refl refl;
  device = λ device is. absurd (damage_is_no_fault Save device _ is);
  spared = λ not. files_quiet g.D.Disk.faults c.args.vault.now (record c.args.vault.now { save = c.load.new.disk })
      (c.in-Err-Damaged.ensures.faults.quiet (λ same. broken_is_no_fault _ _ c.in-Err-Damaged.field-0-is same))
      refl refl refl;
}

pub returns-in-Err-Damaged-clause-damaged : goal.returns-in-Err-Damaged-clause-damaged
returns-in-Err-Damaged-clause-damaged g c device at same =
    let so = damaged_so Save device _ at same in
    (so.0, c.in-Err-Damaged.ensures.damaged at (ap Err (c.in-Err-Damaged.field-0-is ∙ ap Broken so.1)))

-- ---- what is found, and which device is told

pub returns-in-Ok-clause-found : goal.returns-in-Ok-clause-found
returns-in-Ok-clause-found g c = c.in-Ok.ensures.found

pub returns-in-Ok-clause-damaged : goal.returns-in-Ok-clause-damaged
returns-in-Ok-clause-damaged g c device at is = absurd (not_err _ _ is)

pub returns-in-Ok-clause-only : goal.returns-in-Ok-clause-only
returns-in-Ok-clause-only g c device is = absurd (not_err _ _ is)

pub returns-in-Ok-clause-snaps : goal.returns-in-Ok-clause-snaps
returns-in-Ok-clause-snaps g c = refl

pub returns-in-Err-Device-clause-found : goal.returns-in-Err-Device-clause-found
returns-in-Err-Device-clause-found g c = tt

pub returns-in-Err-Device-clause-damaged : goal.returns-in-Err-Device-clause-damaged
returns-in-Err-Device-clause-damaged g c device at is = absurd (fault_is_no_damage Save device at is)

pub returns-in-Err-Device-clause-only : goal.returns-in-Err-Device-clause-only
returns-in-Err-Device-clause-only g c device is = sym (failed_so Save device is)

pub returns-in-Err-Device-clause-snaps : goal.returns-in-Err-Device-clause-snaps
returns-in-Err-Device-clause-snaps g c = refl

pub returns-in-Err-Damaged-clause-found : goal.returns-in-Err-Damaged-clause-found
returns-in-Err-Damaged-clause-found g c = tt

pub returns-in-Err-Damaged-clause-only : goal.returns-in-Err-Damaged-clause-only
returns-in-Err-Damaged-clause-only g c device is = absurd (damage_is_no_fault Save device _ is)

pub returns-in-Err-Damaged-clause-snaps : goal.returns-in-Err-Damaged-clause-snaps
returns-in-Err-Damaged-clause-snaps g c = refl
