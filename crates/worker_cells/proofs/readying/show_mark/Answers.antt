-- The mark that is set is a new one, of all that is durable.
use Rattle.std.proofs.Common.{◌≡◌, ◌∙◌, ◌-◌, ◌<◌, ◌^◌, ap, rules, subst, Some}
use Rattle.log_writer.specs.Journal.{JournalState}
use Rattle.engine_pages.specs.Passes.{view}
use Rattle.engine_seats.specs.Clock.{marked}
use Rattle.worker_cells.proofs.Moves.{joined_anew, joined_shown}
use Rattle.worker_cells.proofs.readying.show_mark.Goals as goal

pub mark-requires-clause-flushed : goal.mark-requires-clause-flushed
mark-requires-clause-flushed c =
    ap (λ (j : JournalState). j.lines) c.journal.ensures.journal
    ∙ (joined_anew c.args.clock c.args.log.now c.args.shown c.mark-now.result c.requires.moved c.mark-now.ensures.mark
    (search rules)).flushed

pub returns-clause-shows : goal.returns-clause-shows
returns-clause-shows c =
    let x = view c.mark.new.pass in
    joined_shown c.args.clock c.args.log.now c.args.shown c.mark-now.result (view c.args.pass.now) x
    (joined_anew c.args.clock c.args.log.now c.args.shown c.mark-now.result c.requires.moved c.mark-now.ensures.mark
    (search rules)) c.mark-now.ensures.mark (search rules) c.requires.clock.1
    (subst (λ (j : JournalState). j.durable < 2 ^ 40) c.journal.ensures.journal c.mark.ensures.counted)
    c.requires.clock.0
    (subst (λ (j : JournalState). x
    ≡ marked (record { epoch = Some (c.args.clock - 1); length = j.durable }) (view c.args.pass.now))
    c.journal.ensures.journal c.mark.ensures.marks)
