-- The pass has no transaction under way as its mark is set.
use Rattle.std.proofs.Common.{◌<◌, refl, subst, sym}
use Rattle.wire_form.specs.declared.clock.Mark.{Mark}
use Rattle.commit_core.specs.CoreState.{last_marked}
use Rattle.commit_core.specs.declared.seat.Seat.{Seat}
use Rattle.engine_pages.specs.Passes.{view}
use Rattle.tx_runner.specs.OwnThreads.{seen_over}
use Rattle.worker_logs.specs.Moves.{refusal}
use Rattle.worker_cells.specs.Cells.{IsTied, ShowsMark}
use Rattle.worker_cells.proofs.Moves.{moved_joined, readies_so, ready_marked}
use Rattle.worker_cells.proofs.readying.make_ready.Goals as goal

pub show_mark-requires-clause-over : goal.show_mark-requires-clause-over
show_mark-requires-clause-over g c =
    seen_over c.load_epoch-clock.result (view c.args.pass.now) (view c.load_epoch-clock.new.pass)
    c.load_epoch-clock.ensures.seen c.requires.over

pub show_mark-requires-clause-moved : goal.show_mark-requires-clause-moved
show_mark-requires-clause-moved g c =
    moved_joined c.load_epoch-clock.result c.mark-shown.result c.prepare-ready.ensures.moves c.mark-shown.ensures.mark

pub returns-clause-readies : goal.returns-clause-readies
returns-clause-readies g c =
    readies_so c.load_epoch-clock.result (view c.args.pass.now) (view c.load_epoch-clock.new.pass)
    (view c.show_mark.new.pass) c.mark-shown.result c.prepare-ready.new.self.mark (refusal c.prepare-ready.result)
    c.load_epoch-clock.ensures.seen c.show_mark.ensures.goes c.show_mark.ensures.over c.show_mark.ensures.epoch
    c.prepare-ready.ensures.moves c.mark-shown.ensures.mark refl c.show_mark.ensures.shows
    c.show_mark.ensures.last c.show_mark.ensures.steps

-- the mark that stands on the words then
pub returns-clause-marked : goal.returns-clause-marked
returns-clause-marked g c =
    let seen = c.load_epoch-clock.ensures.seen in
    let w = view c.load_epoch-clock.new.pass in
    let x = view c.show_mark.new.pass in
    let shows = subst (λ (m : Mark). ShowsMark m c.prepare-ready.new.self.mark w x) c.mark-shown.ensures.mark
    c.show_mark.ensures.shows in
    ready_marked c.load_epoch-clock.result c.prepare-ready.result c.args.log.now.mark c.prepare-ready.new.self.mark w x
    (subst (λ (s : Seat). IsTied c.args.log.now.mark s.marks) (sym seen.seat) c.requires.tied)
    (subst (λ (s : Seat). last_marked s.marks < c.load_epoch-clock.result) (sym seen.seat) seen.marked)
    c.show_mark.ensures.epoch shows c.prepare-ready.ensures.keeps_up
