-- A swap behind a save: the cuts, and the turn behind them.
use Rattle.std.proofs.Common.{◌∙◌, ap, inr, refl, subst, sym, Some, None}
use Rattle.log_writer.specs.Points.{sequence_of}
use Rattle.round_engine.specs.Sides.{closed_numbers}
use Rattle.round_engine.specs.Standing.{RuntimeState}
use Rattle.round_engine.specs.Swaps.{CutsBanks}
use Rattle.round_engine.proofs.swaps.swap.Goals as goal

pub cut_closed-requires-clause-newest : goal.cut_closed-requires-clause-newest
cut_closed-requires-clause-newest g c = (
  c.args.runtime.now.save.newest,
  c.requires.stored,
  sym (c.sequence.ensures.newest ∙ ap (λ (r : RuntimeState). sequence_of r.save.newest) c.runtime.view_is),
)

pub returns-in-Ok-clause-swaps : goal.returns-in-Ok-clause-swaps
returns-in-Ok-clause-swaps g c =
    let same = c.runtime.view_is in
    inr (
      sym c.has_counted.ensures ∙ c.if-has_counted.false,
      None,
      subst (λ n. CutsBanks g.D.Disk.tells g.D.Disk.clock g.D.Disk.image_at g.D.Disk.faults n
          (closed_numbers c.args.runtime.now.side) None c.args.vault.now c.cut_closed.new.vault)
          (c.sequence.ensures.newest ∙ ap (λ (r : RuntimeState). sequence_of r.save.newest) same)
          (subst (λ s. CutsBanks g.D.Disk.tells g.D.Disk.clock g.D.Disk.image_at g.D.Disk.faults c.sequence.result
          (closed_numbers s) None c.args.vault.now c.cut_closed.new.vault)
          (ap (λ (r : RuntimeState). r.side) same) c.in-Ok.ensures.cuts),
      c.turn.ensures.turns,
      refl,
    )

pub returns-in-Err-clause-swaps : goal.returns-in-Err-clause-swaps
returns-in-Err-clause-swaps g c =
    let same = c.runtime.view_is in
    inr (
      sym c.has_counted.ensures ∙ c.if-has_counted.false,
      Some c.in-Err.number,
      subst (λ n. CutsBanks g.D.Disk.tells g.D.Disk.clock g.D.Disk.image_at g.D.Disk.faults n
          (closed_numbers c.args.runtime.now.side) (Some c.in-Err.number) c.args.vault.now c.cut_closed.new.vault)
          (c.sequence.ensures.newest ∙ ap (λ (r : RuntimeState). sequence_of r.save.newest) same)
          (subst (λ s. CutsBanks g.D.Disk.tells g.D.Disk.clock g.D.Disk.image_at g.D.Disk.faults c.sequence.result
          (closed_numbers s) (Some c.in-Err.number) c.args.vault.now c.cut_closed.new.vault)
          (ap (λ (r : RuntimeState). r.side) same) c.in-Err.ensures.cuts),
      refl,
      refl,
    )
