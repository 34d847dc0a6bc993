-- A worker's closed log file is mapped, or its fault is told under its number.
use Rattle.std.proofs.Common.{◌∙◌, Err, ap, subst, sym}
use Rattle.lists.specs.declared.memory.OrMemory.TheVariants.{Fault}
use Rattle.outside.specs.declared.device.Device.TheVariants.{Bank}
use Rattle.gleaner.specs.Glean.{IsReadFault}
use Rattle.gleaner.specs.declared.gleaning.GleanFault.TheVariants as faults
use Rattle.gleaner.proofs.Exits.{fault_again, memory_is_no_fault, not_err, same_fault, told_fault}
use Rattle.gleaner.proofs.MappedFile.{mapped_file}
use Rattle.gleaner.proofs.mapping.map_file.Goals as goal

-- ---- it is mapped

pub returns-in-Ok-clause-same : goal.returns-in-Ok-clause-same
returns-in-Ok-clause-same g c = c.map_into.ensures.same

pub returns-in-Ok-clause-mapped : goal.returns-in-Ok-clause-mapped
returns-in-Ok-clause-mapped g c =
    let half = c.args.half.now in
    let m = c.in-Ok.ensures.mapped in (
      m.0,
      m.1,
      mapped_file g.D.Disk.tells half.closed half.decls.now half.after c.args.worker c.bank_of-bank.result
          c.args.file.now m.0 m.3 c.bank_of-bank.ensures m.2 m.4,
    )

pub returns-in-Ok-clause-damaged : goal.returns-in-Ok-clause-damaged
returns-in-Ok-clause-damaged g c device place is = absurd (not_err _ _ is)

pub returns-in-Ok-clause-device : goal.returns-in-Ok-clause-device
returns-in-Ok-clause-device g c device is = absurd (not_err _ _ is)

pub returns-in-Ok-clause-only : goal.returns-in-Ok-clause-only
returns-in-Ok-clause-only g c fault is = absurd (not_err _ _ is)

pub returns-in-Ok-clause-reads : goal.returns-in-Ok-clause-reads
returns-in-Ok-clause-reads g c = c.map_into.ensures.reads

pub returns-in-Ok-clause-quiet : goal.returns-in-Ok-clause-quiet
returns-in-Ok-clause-quiet g c other = c.in-Ok.ensures.spared (λ is. not_err _ _ is)

-- ---- memory was wanted

pub returns-in-Err-Memory-clause-same : goal.returns-in-Err-Memory-clause-same
returns-in-Err-Memory-clause-same g c = c.map_into.ensures.same

pub returns-in-Err-Memory-clause-mapped : goal.returns-in-Err-Memory-clause-mapped
returns-in-Err-Memory-clause-mapped g c = tt

pub returns-in-Err-Memory-clause-damaged : goal.returns-in-Err-Memory-clause-damaged
returns-in-Err-Memory-clause-damaged g c device place is = absurd (memory_is_no_fault _ is)

pub returns-in-Err-Memory-clause-device : goal.returns-in-Err-Memory-clause-device
returns-in-Err-Memory-clause-device g c device is = absurd (memory_is_no_fault _ is)

pub returns-in-Err-Memory-clause-only : goal.returns-in-Err-Memory-clause-only
returns-in-Err-Memory-clause-only g c fault is = absurd (memory_is_no_fault _ is)

pub returns-in-Err-Memory-clause-reads : goal.returns-in-Err-Memory-clause-reads
returns-in-Err-Memory-clause-reads g c = c.map_into.ensures.reads

pub returns-in-Err-Memory-clause-quiet : goal.returns-in-Err-Memory-clause-quiet
returns-in-Err-Memory-clause-quiet g c other =
    let e = c.in-Err-Memory in
    e.ensures.spared (λ is. memory_is_no_fault _ (sym (ap Err e.field-0-is) ∙ is))

-- ---- the file failed, or is damaged

pub returns-in-Err-Fault-clause-same : goal.returns-in-Err-Fault-clause-same
returns-in-Err-Fault-clause-same g c = c.map_into.ensures.same

pub returns-in-Err-Fault-clause-mapped : goal.returns-in-Err-Fault-clause-mapped
returns-in-Err-Fault-clause-mapped g c = tt

pub returns-in-Err-Fault-clause-damaged : goal.returns-in-Err-Fault-clause-damaged
returns-in-Err-Fault-clause-damaged g c device place is =
    let e = c.in-Err-Fault in
    let d = c.fault_of.ensures.damaged device place (told_fault _ _ is) in
    (d.0 ∙ ap Bank c.bank_of-bank.ensures, e.ensures.damaged place (ap Err (e.field-0-is ∙ ap Fault d.1)))

pub returns-in-Err-Fault-clause-device : goal.returns-in-Err-Fault-clause-device
returns-in-Err-Fault-clause-device g c device is =
    let e = c.in-Err-Fault in
    let d = c.fault_of.ensures.device device (told_fault _ _ is) in
    (d.0 ∙ ap Bank c.bank_of-bank.ensures, e.ensures.device (ap Err (e.field-0-is ∙ ap Fault d.1)))

pub returns-in-Err-Fault-clause-only : goal.returns-in-Err-Fault-clause-only
returns-in-Err-Fault-clause-only g c fault is = subst IsReadFault (told_fault _ _ is) c.fault_of.ensures.only

pub returns-in-Err-Fault-clause-reads : goal.returns-in-Err-Fault-clause-reads
returns-in-Err-Fault-clause-reads g c = c.map_into.ensures.reads

pub returns-in-Err-Fault-clause-quiet : goal.returns-in-Err-Fault-clause-quiet
returns-in-Err-Fault-clause-quiet g c other =
    let e = c.in-Err-Fault in
    e.ensures.spared (λ is. other (fault_again _ _ (c.fault_of.ensures.failed (same_fault _ _ _ e.field-0-is is)
    ∙ ap (λ n. faults.Device (Bank n)) c.bank_of-bank.ensures)))
