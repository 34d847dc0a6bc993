-- One worker after another, and then the pages.
use Rattle.std.proofs.Common.{◌≡◌, ◌∙◌, ap, subst, sym, arith, length, List, []}
use Rattle.std.specs.Prelude.{slice_get}
use Rattle.lists.specs.Each.{all_at}
use Rattle.engine_pages.specs.Passes.{view}
use Rattle.worker_logs.specs.Logs.{LogState}
use Rattle.shared_rounds.specs.First.{ShowsMarks}
use Rattle.shared_rounds.proofs.FirstMarks.{more_shown, none_shown, sets_can, shown_looked}
use Rattle.shared_rounds.proofs.Claimed.{owns_behind}
use Rattle.shared_rounds.proofs.marking.show_each.Goals as goal

pub loop-worker-init : goal.loop-worker-init
loop-worker-init g c = (
  c.requires.of,
  none_shown c.args.counts.now (view c.args.keeper.now) c.args.logs.now c.args.growing.now c.requires.keeper
      c.requires.parked,
)

pub show_at-requires-clause-keeper : goal.show_at-requires-clause-keeper
show_at-requires-clause-keeper g c =
    sets_can (view c.args.keeper.now) (view c.loop-worker.keeper) c.loop-worker.invariant.1.sets c.requires.keeper

pub show_at-requires-clause-parked : goal.show_at-requires-clause-parked
show_at-requires-clause-parked g c = c.loop-worker.invariant.1.sets.parked_are

pub show_at-requires-clause-worker : goal.show_at-requires-clause-worker
show_at-requires-clause-worker g c =
    let so = c.loop-worker.invariant.1 in
    let long : length c.loop-worker.growing ≡ 8 =
    ap (λ (l : List g.row.D.Denot). length l) so.banks_are ∙ c.requires.logs.1 in
    let many = so.logs_many in (
      omega (arith, c.loop-worker-test.true),
      omega (arith, c.loop-worker-test.true, many, c.requires.logs.0),
      omega (arith, c.loop-worker-test.true, long),
    )

pub show_at-requires-clause-up : goal.show_at-requires-clause-up
show_at-requires-clause-up g c log bank at there =
    let so = c.loop-worker.invariant.1 in
    c.requires.up c.loop-worker.worker log bank (sym (so.rest c.loop-worker.worker (omega arith)).0 ∙ at)
    (ap (λ (l : List g.row.D.Denot). slice_get l c.loop-worker.worker) (sym so.banks_are) ∙ there)

pub show_at-requires-clause-flushed : goal.show_at-requires-clause-flushed
show_at-requires-clause-flushed g c log at =
    let so = c.loop-worker.invariant.1 in
    all_at (λ (l : LogState). l.journal.lines ≡ []) c.args.logs.now c.loop-worker.worker log c.requires.flushed
    (sym (so.rest c.loop-worker.worker (omega arith)).0 ∙ at)

pub show_at-requires-clause-idle : goal.show_at-requires-clause-idle
show_at-requires-clause-idle g c log at none =
    let so = c.loop-worker.invariant.1 in
    c.requires.idle c.loop-worker.worker log (sym (so.rest c.loop-worker.worker (omega arith)).0 ∙ at) none

pub loop-worker-preserved : goal.loop-worker-preserved
loop-worker-preserved g c = (
  c.show_at.ensures.of,
  more_shown c.args.counts.now c.loop-worker.worker (view c.args.keeper.now) (view c.loop-worker.keeper)
      (view c.show_at.new.keeper) c.args.logs.now c.loop-worker.logs c.show_at.new.logs c.args.growing.now
      c.loop-worker.growing c.show_at.new.growing c.loop-worker.invariant.1 c.show_at.ensures.one,
)

pub look_at_pages-requires-clause-keeper : goal.look_at_pages-requires-clause-keeper
look_at_pages-requires-clause-keeper g c = c.loop-worker.invariant.1.sets.role

pub returns-clause-shows : goal.returns-clause-shows
returns-clause-shows g c =
    let end : c.loop-worker.worker ≡ 8 = omega (arith, c.loop-worker-test.false) in
    shown_looked c.args.counts.now 8 c.look_at_pages.result (view c.args.keeper.now) (view c.loop-worker.keeper)
    (view c.look_at_pages.new.pass) c.args.logs.now c.loop-worker.logs c.args.growing.now c.loop-worker.growing
    c.look_at_pages.ensures.looks.is
    (subst (λ n. ShowsMarks g.D.Disk.tells g.D.Disk.clock g.D.Disk.image_at g.D.Disk.faults c.args.counts.now n
    (view c.args.keeper.now) (view c.loop-worker.keeper)
    c.args.logs.now c.loop-worker.logs c.args.growing.now c.loop-worker.growing) end c.loop-worker.invariant.1)

pub returns-clause-behind : goal.returns-clause-behind
returns-clause-behind g c =
    owns_behind (view c.loop-worker.keeper) (view c.look_at_pages.new.pass) c.look_at_pages.result
    c.look_at_pages.ensures.looks
