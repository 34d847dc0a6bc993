-- One log file of a half is mapped, and the others are as they were.
use Rattle.std.proofs.Common.{◌/◌, ◌∙◌, get_or, subst, sym}
use Rattle.std.proofs.lemmas.List.{length-set}
use Rattle.std.proofs.lemmas.Option.{same_Some, slice_get-get_or}
use Rattle.lists.specs.Elements.{at_set_other, at_set_same}
use Rattle.recovery_core.specs.EntriesRead.{Maps}
use Rattle.recovery_core.proofs.entries.map_one.Goals as goal

pub returns-clause-maps : goal.returns-clause-maps
returns-clause-maps g c was here =
    let disks = c.args.disks.now in
    let at = c.args.bank / 2 in
    let item = get_or disks at c.index-disks-at.result in
    let there = slice_get-get_or disks at c.index-disks-at.result c.requires.within in
    let maps = c.map_bank.ensures in (
      c.map_bank.new.disk,
      at_set_same disks at item c.map_bank.new.disk there,
      subst (λ x. Maps g.D.Disk.tells g.D.Disk.clock g.D.Disk.image_at g.D.Disk.faults c.args.bank c.args.counted
          c.args.decls.now c.args.from c.args.to x c.map_bank.new.disk c.map_bank.result)
          (same_Some item was (sym there ∙ here)) (record {
            mapped = maps.mapped;
            damaged = maps.damaged;
            device = maps.device;
            spared = maps.spared;
            reads = maps.reads;
          }),
    )

pub returns-clause-lines : goal.returns-clause-lines
returns-clause-lines g c = c.map_bank.ensures.lines

pub returns-clause-others : goal.returns-clause-others
returns-clause-others g c other apart =
    at_set_other c.args.disks.now (c.args.bank / 2) other c.map_bank.new.disk apart

pub returns-clause-len : goal.returns-clause-len
returns-clause-len g c = length-set c.args.disks.now (c.args.bank / 2) c.map_bank.new.disk
