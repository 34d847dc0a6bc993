-- One log is reset, and the others are as they were.
use Rattle.std.proofs.Common.{◌≡◌, ◌∙◌, [], ap, subst, sym, Some}
use Rattle.lists.specs.Elements.{at_set_other, at_set_same}
use Rattle.worker_logs.specs.Logs.{LogState, reset_log}
use Rattle.round_engine.proofs.Places.{read_at}
use Rattle.round_engine.proofs.Places.{item_at}
use Rattle.round_engine.proofs.swaps.reset_one.Goals as goal

pub reset-requires : goal.reset-requires
reset-requires c =
    let log = item_at c.args.logs.now c.args.index c.requires.within in
    record {
      flushed = subst (λ (l : LogState). l.journal.lines ≡ [])
          (sym (read_at c.args.logs.now c.args.index log.0 c.index-logs-index.result log.1)) (c.requires.flushed log.0 log.1);
    }

pub returns-clause-mine : goal.returns-clause-mine
returns-clause-mine c log at =
    at_set_same c.args.logs.now c.args.index log c.reset.new.self at
    ∙ ap Some (c.reset.ensures.resets ∙ ap reset_log (read_at c.args.logs.now c.args.index log c.index-logs-index.result at))

pub returns-clause-others : goal.returns-clause-others
returns-clause-others c other apart = at_set_other c.args.logs.now c.args.index other c.reset.new.self apart
