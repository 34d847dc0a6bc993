-- The closed log files are cut, one after another.
use Rattle.std.proofs.Common.{◌∙◌, arith, Some, None, sym, subst}
use Rattle.log_writer.specs.Cuts.{whole_cut}
use Rattle.round_engine.proofs.BanksCut.{closed_done, closed_ends, closed_fails}
use Rattle.log_writer.specs.Save.{IsNewest}
use Rattle.round_engine.proofs.swaps.cut_closed.Goals as goal

pub cut_in-requires-clause-newest : goal.cut_in-requires-clause-newest
cut_in-requires-clause-newest g c =
    subst (λ d. IsNewest g.D.Disk.tells g.D.Disk.clock g.D.Disk.image_at d c.args.after)
    (sym c.loop-worker.invariant.save) c.requires.newest

pub returns-in_default : goal.returns-in_default
returns-in_default g c =
    let inv = c.loop-worker.invariant in
    let made = c.in_default.ensures in
    record {
      cuts = inv.rest (Some c.closed_number-number.result) c.cut_in.new.self
          (closed_fails g.D.Disk.tells g.D.Disk.clock g.D.Disk.image_at g.D.Disk.faults c.args.after c.args.side
          c.loop-worker.worker c.closed_number-number.result (omega (arith, c.loop-worker-test.true)) c.closed_number-number.ensures
          c.in_default.field-0 c.loop-worker.vault c.cut_in.new.self
          (record { cut = made.cut; recorded = made.recorded; save = made.save; ties = made.ties }));
    }

pub loop-worker-preserved : goal.loop-worker-preserved
loop-worker-preserved g c =
    let inv = c.loop-worker.invariant in
    let made = c.in-Ok.ensures in
    record {
      whole = whole_cut c.cut_in.ensures.cut inv.whole;
      room = omega (arith, inv.room, c.cut_in.ensures.room);
      save = c.cut_in.ensures.save ∙ inv.save;
      rest = λ failed end more. inv.rest failed end
          (closed_done g.D.Disk.tells g.D.Disk.clock g.D.Disk.image_at g.D.Disk.faults c.args.after c.args.side
          c.loop-worker.worker c.closed_number-number.result (omega (arith, c.loop-worker-test.true)) c.closed_number-number.ensures
          c.loop-worker.vault c.cut_in.new.self
          (record { cut = made.cut; recorded = made.recorded; save = made.save; ties = made.ties }) failed end more);
    }

pub returns : goal.returns
returns g c = record {
  cuts = c.loop-worker.invariant.rest None c.loop-worker.vault
      (closed_ends g.D.Disk.tells g.D.Disk.clock g.D.Disk.image_at g.D.Disk.faults c.args.after c.args.side
      c.loop-worker.worker (omega (arith, c.loop-worker-test.false)) c.loop-worker.vault);
}
