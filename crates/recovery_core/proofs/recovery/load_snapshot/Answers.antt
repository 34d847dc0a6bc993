use Rattle.std.proofs.Common.{◌∙◌, Err, ap, refl}
use Rattle.std.proofs.lemmas.Result.{err_from_is_err_and}
use Rattle.lists.specs.declared.memory.OrMemory.TheVariants.{Fault}
use Rattle.recovery_core.proofs.Exits.{damage_is_no_fault, damaged_so, memory_is_no_fault, not_err}
use Rattle.recovery_core.proofs.Exits.{reads_damage, reads_forgotten, reads_handed_on, reads_well}
use Rattle.recovery_core.proofs.Recovering.{snaps_break}
use Rattle.recovery_core.proofs.recovery.load_snapshot.Goals as goal

pub returns-in-Err-Fault-clause-damaged : goal.returns-in-Err-Fault-clause-damaged
returns-in-Err-Fault-clause-damaged g c device at same =
    let so = damaged_so _ device _ at same in (
      so.0,
      λ file told p saved.
          snaps_break file c.args.saved.now p _ at saved (c.in_ok-store.ensures.pages file told)
          (c.in-Err-Fault.ensures.breaks at (ap Err (c.in-Err-Fault.field-0-is ∙ ap Fault so.1))),
    )

pub returns-in_err-store-clause-devices : goal.returns-in_err-store-clause-devices
returns-in_err-store-clause-devices g c =
    let p = err_from_is_err_and c.from_residual.result c.from_residual.ensures.1 in
    reads_handed_on c.from_residual.result _ p.0 p.1 p.2 c.in_err-store.ensures.devices

pub returns-in-Ok-clause-devices : goal.returns-in-Ok-clause-devices
returns-in-Ok-clause-devices g c = reads_well _ _ c.in_ok-store.ensures.devices

pub returns-in-Err-Memory-clause-devices : goal.returns-in-Err-Memory-clause-devices
returns-in-Err-Memory-clause-devices g c = reads_forgotten _ _ refl c.in_ok-store.ensures.devices

pub returns-in-Err-Fault-clause-devices : goal.returns-in-Err-Fault-clause-devices
returns-in-Err-Fault-clause-devices g c = reads_damage _ _ _ c.in_ok-store.ensures.devices

-- ---- what is told of no device

pub returns-in-Ok-clause-damaged : goal.returns-in-Ok-clause-damaged
returns-in-Ok-clause-damaged g c device at is = absurd (not_err _ _ is)

pub returns-in-Ok-clause-only : goal.returns-in-Ok-clause-only
returns-in-Ok-clause-only g c device is = absurd (not_err _ _ is)

pub returns-in-Err-Memory-clause-damaged : goal.returns-in-Err-Memory-clause-damaged
returns-in-Err-Memory-clause-damaged g c device at is = absurd (memory_is_no_fault _ is)

pub returns-in-Err-Memory-clause-only : goal.returns-in-Err-Memory-clause-only
returns-in-Err-Memory-clause-only g c device is = absurd (memory_is_no_fault _ is)

pub returns-in-Err-Fault-clause-only : goal.returns-in-Err-Fault-clause-only
returns-in-Err-Fault-clause-only g c device is = absurd (damage_is_no_fault _ device _ is)

-- ---- nothing is promised of what failed

pub returns-in-Err-Fault-clause-count : goal.returns-in-Err-Fault-clause-count
returns-in-Err-Fault-clause-count g c = tt

pub returns-in-Err-Fault-clause-holds : goal.returns-in-Err-Fault-clause-holds
returns-in-Err-Fault-clause-holds g c = tt

pub returns-in-Err-Fault-clause-pages : goal.returns-in-Err-Fault-clause-pages
returns-in-Err-Fault-clause-pages g c = tt

pub returns-in-Err-Fault-clause-snapshot : goal.returns-in-Err-Fault-clause-snapshot
returns-in-Err-Fault-clause-snapshot g c = tt

pub returns-in-Err-Fault-clause-sound : goal.returns-in-Err-Fault-clause-sound
returns-in-Err-Fault-clause-sound g c = tt

pub returns-in-Err-Memory-clause-count : goal.returns-in-Err-Memory-clause-count
returns-in-Err-Memory-clause-count g c = tt

pub returns-in-Err-Memory-clause-holds : goal.returns-in-Err-Memory-clause-holds
returns-in-Err-Memory-clause-holds g c = tt

pub returns-in-Err-Memory-clause-pages : goal.returns-in-Err-Memory-clause-pages
returns-in-Err-Memory-clause-pages g c = tt

pub returns-in-Err-Memory-clause-snapshot : goal.returns-in-Err-Memory-clause-snapshot
returns-in-Err-Memory-clause-snapshot g c = tt

pub returns-in-Err-Memory-clause-sound : goal.returns-in-Err-Memory-clause-sound
returns-in-Err-Memory-clause-sound g c = tt
