use Rattle.std.proofs.Common.{ap}
use Rattle.engine_pages.specs.declared.view.View.{View}
use Rattle.engine_pages.specs.Passes.{view}
use Rattle.engine_seats.proofs.Cutting.{seen_both}
use Rattle.engine_seats.proofs.seating.end.Goals as goal

pub returns-clause-seen : goal.returns-clause-seen
returns-clause-seen c =
    seen_both (view c.args.keeper.now) (view c.args.pass) (view c.join_worker.new.keeper) (view c.load_clock-clock.new.pass) _
    (ap (λ (v : View). v.heard) c.join_worker.ensures.keeper) c.load_clock-clock.ensures.times
