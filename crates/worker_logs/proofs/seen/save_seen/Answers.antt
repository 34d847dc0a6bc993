use Rattle.std.proofs.Common.{◌≡◌, Err, ap, arith}
use Rattle.log_writer.specs.declared.save.SaveFault.TheVariants.{Device}
use Rattle.worker_logs.specs.SavesLaws.{counted_marks}
use Rattle.worker_logs.proofs.Saving.{saves_given, saves_refused}
use Rattle.worker_logs.proofs.seen.save_seen.Goals as goal

pub returns-in-Ok : goal.returns-in-Ok
returns-in-Ok g c =
    let done = c.in-Ok.ensures in
    record {
      saves = saves_given _ c.saved_seen-saved.ensures.by_marks done.stores done.tied
          (omega (arith, c.sequence-sequence.ensures.newest, c.sequence-sequence.ensures.counted))
          done.room done.others;
    }

pub returns-in-Err : goal.returns-in-Err
returns-in-Err g c =
    let done = c.in-Err.ensures in
    record {
      saves = saves_refused c.in-Err.fault c.saved_seen-saved.ensures.by_marks done.stores
          (λ is. done.begun (ap Err is))
          (λ other. done.untied (λ is. other (let same : c.in-Err.fault ≡ Device = cc in same)))
          (omega (arith, c.sequence-sequence.ensures.newest, c.sequence-sequence.ensures.counted))
          done.room done.others;
    }

-- what is stored counts what is durable
pub store_in-requires-clause-counted : goal.store_in-requires-clause-counted
store_in-requires-clause-counted g c always n bank there =
    counted_marks c.requires.seen.0 c.requires.beside.workers
    c.saved_seen-saved.ensures.by_marks (c.requires.durable always) n bank there
