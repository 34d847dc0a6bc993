-- One disk is cut, and the others are as they were.
use Rattle.std.proofs.Common.{◌∙◌, get_or, subst, sym}
use Rattle.std.proofs.lemmas.List.{length-set}
use Rattle.std.proofs.lemmas.Option.{same_Some, slice_get-get_or}
use Rattle.lists.specs.Elements.{at_set_other, at_set_same}
use Rattle.log_writer.specs.Vault.{Cuts}
use Rattle.log_writer.proofs.vault.cut_one.Goals as goal

pub returns-clause-cut : goal.returns-clause-cut
returns-clause-cut g c was here =
    let disks = c.args.disks.now in
    let item = get_or disks c.args.at c.index-disks-at.result in
    let there = slice_get-get_or disks c.args.at c.index-disks-at.result c.requires in
    let cuts = c.cut.ensures in (
      c.cut.new.self,
      at_set_same disks c.args.at item c.cut.new.self there,
      subst (λ x. Cuts g.D.Disk.tells g.D.Disk.clock g.D.Disk.image_at g.D.Disk.faults 0 x c.cut.new.self c.cut.result)
          (same_Some item was (sym there ∙ here))
          (record { cut = cuts.cut; torn = cuts.torn; told = cuts.told; goes = cuts.goes }),
    )

pub returns-clause-others : goal.returns-clause-others
returns-clause-others g c other apart = at_set_other c.args.disks.now c.args.at other c.cut.new.self apart

pub returns-clause-len : goal.returns-clause-len
returns-clause-len g c = length-set c.args.disks.now c.args.at c.cut.new.self
