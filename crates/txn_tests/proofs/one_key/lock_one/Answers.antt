use Rattle.engine_pages.specs.Passes.{view}
use Rattle.page_commit.proofs.PlaceLaws.{spot_here}
use Rattle.txn_tests.specs.Standing.{first_key}
use Rattle.txn_tests.proofs.KeyLaws.{free_begins, locked_layout, locked_so, spot_any, within_active}
use Rattle.txn_tests.proofs.one_key.lock_one.Goals as goal

pub lock-seen-requires-clause-pass : goal.lock-seen-requires-clause-pass
lock-seen-requires-clause-pass c =
    within_active c.args.holds.now (view c.args.pass.now) c.requires.free.within

pub lock-seen-requires-clause-idle : goal.lock-seen-requires-clause-idle
lock-seen-requires-clause-idle c = free_begins c.args.holds.now (view c.args.pass.now) c.requires.free

pub lock-seen-requires-clause-place : goal.lock-seen-requires-clause-place
lock-seen-requires-clause-place c =
    spot_any c.args.engine.now c.args.pass.now first_key c.args.at c.spot_of-spot.result c.requires.of
    c.spot_of-spot.ensures c.requires.place

pub returns-clause-layout : goal.returns-clause-layout
returns-clause-layout c =
    locked_layout c.args.at c.lock-seen.result c.spot_of-spot.result (view c.args.pass.now)
    (view c.lock-seen.new.pass) _ c.lock-seen.ensures.locks

pub returns-clause-locks : goal.returns-clause-locks
returns-clause-locks c =
    locked_so c.args.holds.now c.args.at c.lock-seen.result c.spot_of-spot.result (view c.args.pass.now)
    (view c.lock-seen.new.pass) _ c.requires.free c.requires.place
    (spot_here c.args.engine.now c.args.pass.now c.args.at c.spot_of-spot.result c.requires.of c.spot_of-spot.ensures)
    c.lock-seen.ensures.locks
