-- The marks of the first workers were set.
use Rattle.engine_pages.specs.Passes.{IsPassOf, view}
use Rattle.shared_rounds.specs.First.{ShowsMarks}
use Rattle.shared_rounds.proofs.marking.show_each.Given as goal

abbrev pub invariant-loop-worker : goal.invariant-loop-worker
invariant-loop-worker g l =
    IsPassOf l.engine l.keeper
    × ShowsMarks g.D.Disk.tells g.D.Disk.clock g.D.Disk.image_at g.D.Disk.faults l.counts l.worker
    (view l.initial.keeper) (view l.keeper) l.initial.logs l.logs l.initial.growing
    l.growing
