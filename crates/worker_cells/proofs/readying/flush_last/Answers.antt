-- What waits is made durable, and marked.
use Rattle.std.proofs.Common.{◌∙◌, refl}
use Rattle.engine_pages.specs.Passes.{view}
use Rattle.tx_runner.specs.OwnThreads.{seen_over}
use Rattle.worker_logs.specs.Moves.{refusal}
use Rattle.worker_cells.proofs.Moves.{flushed_down, flushed_up, moved_joined, readies_so}
use Rattle.worker_cells.proofs.readying.flush_last.Goals as goal

pub show_mark-requires-clause-over : goal.show_mark-requires-clause-over
show_mark-requires-clause-over g c =
    seen_over c.load_epoch-clock.result (view c.args.pass.now) (view c.load_epoch-clock.new.pass)
    c.load_epoch-clock.ensures.seen c.requires.over

pub show_mark-requires-clause-moved : goal.show_mark-requires-clause-moved
show_mark-requires-clause-moved g c =
    moved_joined c.load_epoch-clock.result c.mark-shown.result c.flush_and_mark-marked.ensures.moves
    c.mark-shown.ensures.mark

pub returns-clause-readies : goal.returns-clause-readies
returns-clause-readies g c = record {
  fault = refusal c.flush_and_mark-marked.result;
  readies = readies_so c.load_epoch-clock.result (view c.args.pass.now) (view c.load_epoch-clock.new.pass)
      (view c.show_mark.new.pass) c.mark-shown.result c.flush_and_mark-marked.new.self.mark
      (refusal c.flush_and_mark-marked.result)
      c.load_epoch-clock.ensures.seen c.show_mark.ensures.goes c.show_mark.ensures.over c.show_mark.ensures.epoch
      c.flush_and_mark-marked.ensures.moves c.mark-shown.ensures.mark refl c.show_mark.ensures.shows
      c.show_mark.ensures.last c.show_mark.ensures.steps;
}

pub returns-clause-failed : goal.returns-clause-failed
returns-clause-failed g c =
    c.is_err.ensures.value
    ∙ flushed_down c.flush_and_mark-marked.result c.flush_and_mark-marked.ensures.moves
    c.flush_and_mark-marked.ensures.not_full

pub returns-clause-flushed : goal.returns-clause-flushed
returns-clause-flushed g c =
    flushed_up c.load_epoch-clock.result c.flush_and_mark-marked.result c.flush_and_mark-marked.ensures.moves
    c.flush_and_mark-marked.ensures.not_full c.flush_and_mark-marked.ensures.marked
