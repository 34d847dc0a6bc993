use Rattle.lists.specs.Elements.{at_set_other}
use Rattle.worker_logs.specs.FlushAll.{FlushedAs}
use Rattle.worker_logs.proofs.InTurn.{flushed_as, went_at}
use Rattle.worker_logs.proofs.flushing.flush_one.Goals as goal

pub returns-clause-one : goal.returns-clause-one
returns-clause-one g c =
    went_at
    (FlushedAs g.D.Disk.tells g.D.Disk.clock g.D.Disk.image_at g.D.Disk.faults c.args.clock c.flush_and_mark.result)
    c.args.logs.now c.args.growing.now c.args.worker c.index-logs-worker.result c.flush_and_mark.new.self
    c.index-growing-worker.result c.flush_and_mark.new.bank
    (flushed_as c.args.clock c.flush_and_mark.result c.flush_and_mark.ensures.moves c.flush_and_mark.ensures.marked
    c.flush_and_mark.ensures.kept c.flush_and_mark.ensures.not_full
    (λ none. (c.flush_and_mark.ensures.nothing none).0))

pub returns-clause-other_logs : goal.returns-clause-other_logs
returns-clause-other_logs g c other apart =
    at_set_other c.args.logs.now c.args.worker other c.flush_and_mark.new.self apart

pub returns-clause-other_banks : goal.returns-clause-other_banks
returns-clause-other_banks g c other apart =
    at_set_other c.args.growing.now c.args.worker other c.flush_and_mark.new.bank apart
