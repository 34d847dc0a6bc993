use Rattle.std.proofs.Common.{◌<◌, ◌*◌, ℕ, Err, ap, refl, subst, sym, inl, inr}
use Rattle.outside.specs.declared.device.Device.{Device}
use Rattle.outside.specs.declared.device.Device.TheVariants.{Snaps}
use Rattle.joint_crashes.specs.VaultReads.{RoseIn, snaps_read}
use Rattle.recovery_core.specs.ReadsDevices.{files_quiet}
use Rattle.recovery_core.specs.StoredPages.{has_pages}
use Rattle.recovery_core.proofs.Exits.{few_pages, not_err, same_err}
use Rattle.recovery_core.proofs.load_pages.load_pages.Goals as goal

pub returns-in-Ok-clause-devices : goal.returns-in-Ok-clause-devices
returns-in-Ok-clause-devices g c = record {
  reads = snaps_read c.load.ensures.reads refl refl refl refl refl;
  device = λ device is. absurd (not_err _ _ is);
  spared = λ not. files_quiet g.D.Disk.faults c.args.vault.now
      (record c.args.vault.now { snaps = c.load.new.disk }) refl
      c.in-Ok.ensures.quiet refl refl;
}

pub returns-in-Ok-clause-pages : goal.returns-in-Ok-clause-pages
returns-in-Ok-clause-pages g c file told =
    has_pages c.in-Ok.store.pages c.args.count file c.pages_fit.ensures.whole c.pages_fit.ensures.fit
    c.in-Ok.ensures.read.count_is
    (c.in-Ok.ensures.bytes file told)

pub returns-in-Err-clause-devices : goal.returns-in-Err-clause-devices
returns-in-Err-clause-devices g c = record {
  reads = snaps_read c.load.ensures.reads refl refl refl refl refl;
  device = λ device is.
      let failed = c.fault_of.ensures.device device (same_err _ _ is) in
      subst (λ (d : Device). RoseIn g.D.Disk.faults d c.args.vault.now
      (record c.args.vault.now { snaps = c.load.new.disk })) (sym failed.0)
      (c.args.vault.now.snaps, c.load.new.disk, refl, refl, c.in-Err.ensures.device (ap Err failed.1));
  spared = λ not. files_quiet g.D.Disk.faults c.args.vault.now
      (record c.args.vault.now { snaps = c.load.new.disk }) refl
      (c.in-Err.ensures.spared (λ same. not Snaps (ap Err (c.fault_of.ensures.failed (same_err _ _ same))))) refl refl;
}

pub returns-in-Err-clause-damaged : goal.returns-in-Err-clause-damaged
returns-in-Err-clause-damaged g c device at same =
    let why = c.fault_of.ensures.damaged device at (same_err _ _ same) in (
      why.0,
      λ file told. elim why.1 [
        | inl is ↦
            let short = c.in-Err.ensures.short at (ap Err is) file told in
            (subst (λ (n : ℕ). n < 512 * c.args.count) short.0 short.1, short.0)
        | inr is ↦
            let limit = (c.in-Err.ensures.limit at).0 (ap Err is) in
            absurd (few_pages c.args.count c.requires.few limit.1)
      ],
    )

pub returns-in-Err-clause-only : goal.returns-in-Err-clause-only
returns-in-Err-clause-only g c device is = (c.fault_of.ensures.device device (same_err _ _ is)).0
