-- The worker is seated alone, and taken in again.
use Rattle.std.proofs.Common.{◌≡◌, ◌∙◌, ap, subst, sym, ℕ}
use Rattle.engine_pages.specs.Passes.{view}
use Rattle.engine_pages.specs.declared.view.Role.{Role}
use Rattle.engine_pages.specs.declared.view.Role.TheVariants.{Worker}
use Rattle.engine_pages.specs.declared.view.View.{View}
use Rattle.engine_seats.specs.Cuts.{worker_of}
use Rattle.views.specs.Sums.{times}
use Rattle.worker_cells.specs.Below.{IsOver, over_done, seat_over}
use Rattle.shared_rounds.specs.First.{SetsSeat}
use Rattle.shared_rounds.proofs.FirstMarks.{taken_in}
use Rattle.shared_rounds.proofs.marking.show_one.Goals as goal

pub seat-pass-requires-clause-keeper : goal.seat-pass-requires-clause-keeper
seat-pass-requires-clause-keeper g c = c.requires.keeper.role

pub seat-pass-requires-clause-locks : goal.seat-pass-requires-clause-locks
seat-pass-requires-clause-locks g c = c.requires.keeper.locks

pub seat-pass-requires-clause-worker : goal.seat-pass-requires-clause-worker
seat-pass-requires-clause-worker g c = (c.requires.worker, ap (times c.args.worker) c.requires.keeper.made)

pub set_mark-requires-clause-over : goal.set_mark-requires-clause-over
set_mark-requires-clause-over g c =
    subst IsOver (sym c.seat-pass.ensures.seat) (seat_over (view c.args.keeper.now) c.args.worker
    c.requires.keeper.decls (c.requires.keeper.parked c.args.worker c.requires.worker))

pub set_mark-requires-clause-worker : goal.set_mark-requires-clause-worker
set_mark-requires-clause-worker g c = (ap (λ (v : View). v.role) c.seat-pass.ensures.seat, c.requires.worker)

pub end-requires-clause-keeper : goal.end-requires-clause-keeper
end-requires-clause-keeper g c = ap (λ (v : View). v.role) c.seat-pass.ensures.keeper ∙ c.requires.keeper.role

worker_is : (r : Role) (w : ℕ) → r ≡ Worker w → r ≡ Worker (worker_of r)
worker_is r w is = is ∙ ap (λ (x : Role). Worker (worker_of x)) (sym is)

pub end-requires-clause-worker : goal.end-requires-clause-worker
end-requires-clause-worker g c =
    worker_is (view c.set_mark.new.pass).role c.args.worker
    (c.set_mark.ensures.sets.goes.role ∙ ap (λ (v : View). v.role) c.seat-pass.ensures.seat)

pub end-requires-clause-over : goal.end-requires-clause-over
end-requires-clause-over g c = over_done (view c.set_mark.new.pass) c.set_mark.ensures.sets.over

pub returns-clause-sets : goal.returns-clause-sets
returns-clause-sets g c =
    let timed = c.end.ensures.keeper in
    taken_in c.args.lines c.args.worker timed.0 (view c.args.keeper.now) (view c.seat-pass.new.keeper)
    (view c.set_mark.new.pass) (view c.end.new.keeper) c.requires.keeper c.requires.parked c.requires.worker
    c.seat-pass.ensures.keeper
    (subst (λ (v : View). SetsSeat g.D.Disk.tells g.D.Disk.clock g.D.Disk.image_at g.D.Disk.faults c.args.lines v
    (view c.set_mark.new.pass) c.args.log.now c.set_mark.new.log
    c.args.bank.now c.set_mark.new.bank) c.seat-pass.ensures.seat c.set_mark.ensures.sets) timed.1
    c.end.ensures.seen.0
