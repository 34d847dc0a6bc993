use Rattle.std.proofs.Common.{rules, subst}
use Rattle.std.specs.Prelude.{slice_index_or}
use Rattle.worker_cells.specs.declared.cell.Cell.{Cell}
use Rattle.shared_rounds.specs.Seated.{HasRun}
use Rattle.shared_rounds.proofs.cells.run_in_turn.Goals as goal

pub returns : goal.returns
returns g c = record {
  ran = λ k d less.
      let at = (c.for_each_mut.ensures k d less).1 in
      let ran : HasRun g.D.Disk.tells g.D.Disk.clock g.D.Disk.image_at g.D.Disk.faults c.args.tries c.args.round.now
      c.args.engine.now at.argument.now at.after_call.now = search (rules, at.call) in
      subst (λ (y : Cell g.row.D.Denot). HasRun g.D.Disk.tells g.D.Disk.clock g.D.Disk.image_at g.D.Disk.faults
      c.args.tries
      c.args.round.now c.args.engine.now (slice_index_or c.args.cells.now k d) y) at.left
      (subst (λ (x : Cell g.row.D.Denot). HasRun g.D.Disk.tells g.D.Disk.clock g.D.Disk.image_at g.D.Disk.faults
      c.args.tries
      c.args.round.now c.args.engine.now x at.after_call.now) at.argument_is ran);
}
