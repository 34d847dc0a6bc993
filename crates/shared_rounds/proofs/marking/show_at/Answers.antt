-- One log of them, and its log file.
use Rattle.std.proofs.Common.{get_or}
use Rattle.std.proofs.lemmas.List.{length-set}
use Rattle.std.proofs.lemmas.Option.{slice_get-get_or}
use Rattle.lists.specs.Elements.{at_set_other, at_set_same}
use Rattle.shared_rounds.proofs.marking.show_at.Goals as goal

pub show_one-requires-clause-up : goal.show_one-requires-clause-up
show_one-requires-clause-up g c =
    c.requires.up (get_or c.args.logs.now c.args.worker c.index-logs-worker.result)
    (get_or c.args.growing.now c.args.worker c.index-growing-worker.result)
    (slice_get-get_or c.args.logs.now c.args.worker c.index-logs-worker.result c.requires.worker.1)
    (slice_get-get_or c.args.growing.now c.args.worker c.index-growing-worker.result c.requires.worker.2)

pub show_one-requires-clause-flushed : goal.show_one-requires-clause-flushed
show_one-requires-clause-flushed g c =
    c.requires.flushed (get_or c.args.logs.now c.args.worker c.index-logs-worker.result)
    (slice_get-get_or c.args.logs.now c.args.worker c.index-logs-worker.result c.requires.worker.1)

pub show_one-requires-clause-idle : goal.show_one-requires-clause-idle
show_one-requires-clause-idle g c none =
    c.requires.idle (get_or c.args.logs.now c.args.worker c.index-logs-worker.result)
    (slice_get-get_or c.args.logs.now c.args.worker c.index-logs-worker.result c.requires.worker.1) none

pub returns-clause-one : goal.returns-clause-one
returns-clause-one g c =
    let log_was = slice_get-get_or c.args.logs.now c.args.worker c.index-logs-worker.result c.requires.worker.1 in
    let bank_was =
    slice_get-get_or c.args.growing.now c.args.worker c.index-growing-worker.result c.requires.worker.2 in
    record {
      old = get_or c.args.logs.now c.args.worker c.index-logs-worker.result;
      new = c.show_one.new.log;
      before = get_or c.args.growing.now c.args.worker c.index-growing-worker.result;
      now = c.show_one.new.bank;
      log_was = log_was;
      log = at_set_same c.args.logs.now c.args.worker
          (get_or c.args.logs.now c.args.worker c.index-logs-worker.result) c.show_one.new.log log_was;
      bank_was = bank_was;
      bank = at_set_same c.args.growing.now c.args.worker
          (get_or c.args.growing.now c.args.worker c.index-growing-worker.result) c.show_one.new.bank bank_was;
      sets = c.show_one.ensures.sets;
      logs_many = length-set c.args.logs.now c.args.worker c.show_one.new.log;
      banks_many = length-set c.args.growing.now c.args.worker c.show_one.new.bank;
      other_logs = λ other apart. at_set_other c.args.logs.now c.args.worker other c.show_one.new.log apart;
      other_banks = λ other apart. at_set_other c.args.growing.now c.args.worker other c.show_one.new.bank apart;
    }
