-- A vault without log files has nothing that could count.
use Rattle.log_writer.specs.Cuts.{no_bank}
use Rattle.worker_logs.specs.Saves.{closed_number, growing_number}
use Rattle.storage_tests.proofs.logging.store.Goals as goal

pub save_marks-requires-clause-durable : goal.save_marks-requires-clause-durable
save_marks-requires-clause-durable g c always = record {
  growing = λ worker mark bank at there. absurd (no_bank c.args.vault.now c.requires.even c.requires.odd
      (growing_number c.args.beside.now.growing worker) bank there);
  closed = λ worker count bank at there. absurd (no_bank c.args.vault.now c.requires.even c.requires.odd
      (closed_number c.args.beside.now.growing worker) bank there);
}
