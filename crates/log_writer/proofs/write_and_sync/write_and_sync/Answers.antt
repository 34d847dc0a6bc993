use Rattle.std.proofs.Common.{is_some, ap, ◌∙◌, arith}
use Rattle.std.proofs.lemmas.Result.{on_err_weaker}
use Rattle.outside.specs.Moments.{goes_then, each_then}
use Rattle.log_writer.proofs.Flushes.{on_err, torn_told}
use Rattle.log_writer.proofs.write_and_sync.write_and_sync.Goals as goal

pub returns-clause-torn : goal.returns-clause-torn
returns-clause-torn g c =
    on_err c.sync.result (torn_told (g.D.Disk.tells c.args.disk.now) (g.D.Disk.tells c.sync.new.self) c.args.at c.args.bytes.now c.requires
    (λ file was. c.sync.ensures.told ∙ c.in_ok-write.ensures.written file was))

pub returns-clause-through : goal.returns-clause-through
returns-clause-through g c = record {
  told = ap is_some c.sync.ensures.told ∙ c.in_ok-write.ensures.told;
  moments = goes_then (omega (arith, c.in_ok-write.ensures.goes.ticks.ok)) c.write.ensures.goes.moments c.sync.ensures.goes.moments;
  each = each_then (omega (arith, c.in_ok-write.ensures.goes.ticks.ok)) c.write.ensures.goes.each c.sync.ensures.goes.moments c.sync.ensures.goes.each;
  unsettled = on_err_weaker c.sync.result
      (λ loose. each_then (omega (arith, c.in_ok-write.ensures.goes.ticks.ok)) c.write.ensures.goes.each c.sync.ensures.goes.moments loose) c.sync.ensures.unsettled;
}
