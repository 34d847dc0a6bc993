use Rattle.std.proofs.Common.{ap}
use Rattle.engine_pages.specs.declared.view.View.{View}
use Rattle.engine_pages.specs.Passes.{view}
use Rattle.engine_seats.proofs.Cutting.{seen_both}
use Rattle.engine_seats.proofs.seating.learn.Goals as goal

pub returns-clause-seen : goal.returns-clause-seen
returns-clause-seen c =
    seen_both (view c.args.pass.now) (view c.args.note) (view c.join_note.new.pass) (view c.load_clock-clock.new.pass) _
    (ap (λ (v : View). v.heard) c.join_note.ensures.pass) c.load_clock-clock.ensures.times
