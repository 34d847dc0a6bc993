-- Nothing is refused, and the new mark is set on the words.
use Rattle.std.proofs.Common.{◌≡◌, ◌∙◌, ◌-◌, ◌<◌, ◌^◌, ap, subst, Some}
use Rattle.log_writer.specs.Journal.{JournalState}
use Rattle.engine_seats.specs.Clock.{marked}
use Rattle.engine_pages.specs.Passes.{view}
use Rattle.tx_runner.specs.OwnThreads.{seen_over}
use Rattle.worker_cells.proofs.Moves.{first_done, first_joined, first_shown}
use Rattle.worker_cells.proofs.readying.show_first.Goals as goal

pub mark-requires-clause-over : goal.mark-requires-clause-over
mark-requires-clause-over g c =
    seen_over c.load_epoch-clock.result (view c.args.pass.now) (view c.load_epoch-clock.new.pass)
    c.load_epoch-clock.ensures.seen c.requires.over

pub mark-requires-clause-flushed : goal.mark-requires-clause-flushed
mark-requires-clause-flushed g c =
    ap (λ (j : JournalState). j.lines) c.journal.ensures.journal
    ∙ ap (λ (j : JournalState). j.lines) (c.flush_and_mark-marked.ensures.nothing c.requires.flushed).0
    ∙ c.requires.flushed

pub returns-clause-first : goal.returns-clause-first
returns-clause-first g c =
    let call = c.flush_and_mark-marked in
    let x = view c.mark.new.pass in
    let nothing = call.ensures.nothing c.requires.flushed in
    let done = first_done call.result call.ensures.moves call.ensures.not_full nothing.0 c.requires.up.up in
    first_shown c.load_epoch-clock.result (view c.args.pass.now) (view c.load_epoch-clock.new.pass) x
    c.load_epoch-clock.ensures.seen
    (subst (λ (j : JournalState). x
    ≡ marked (record { epoch = Some (c.load_epoch-clock.result - 1); length = j.durable })
    (view c.load_epoch-clock.new.pass)) c.journal.ensures.journal c.mark.ensures.marks)
    c.mark.ensures.over done call.ensures.moves
    (first_joined c.load_epoch-clock.result call.result call.new.self done call.ensures.marked)
    (subst (λ (j : JournalState). j.durable < 2 ^ 40) c.journal.ensures.journal c.mark.ensures.counted) nothing.0
    nothing.1
