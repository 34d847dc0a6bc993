use Rattle.std.proofs.Common.{refl, length, arith}
use Rattle.engine_pages.specs.Passes.{view}
use Rattle.page_commit.proofs.Lists.{apart}
use Rattle.page_commit.proofs.StepLaws.{more_opened, ends_so}
use Rattle.page_commit.proofs.OpenLaws.{open_here, starts_unlocking, still_active, still_here, unlocked_all, unlocked_one}
use Rattle.page_commit.proofs.locking.unlock_all.Goals as goal

pub loop-done-init : goal.loop-done-init
loop-done-init c = record {
  of = c.requires.of;
  count = omega arith;
  steps = omega arith;
  so = starts_unlocking c.args.writes.now c.args.found.now (view c.args.pass.now) c.requires.locked;
}

pub open_again_as-requires-clause-pass : goal.open_again_as-requires-clause-pass
open_again_as-requires-clause-pass c =
    still_active c.args.writes.now c.args.found.now (view c.args.pass.now) (view c.loop-done.pass) c.loop-done.done
    c.requires.pass c.loop-done.invariant.so

pub open_again_as-requires-clause-place : goal.open_again_as-requires-clause-place
open_again_as-requires-clause-place c =
    still_here c.args.writes.now c.args.found.now (view c.args.pass.now) (view c.loop-done.pass) c.loop-done.done _
    c.requires.places c.loop-done.invariant.so c.loop-done-test.true

pub open_again_as-requires-clause-word : goal.open_again_as-requires-clause-word
open_again_as-requires-clause-word c =
    open_here c.args.engine.now c.args.pass.now c.loop-done.pass c.args.writes.now c.args.found.now c.loop-done.done _ _
    c.loop-done.invariant.of c.requires.of c.requires.locked.count c.loop-done.invariant.so c.loop-done-test.true

pub loop-done-preserved : goal.loop-done-preserved
loop-done-preserved c = record {
  of = c.open_again_as.ensures.of;
  count = omega arith;
  steps = more_opened _ _ _ (view c.args.pass.now) (view c.loop-done.pass) (view c.open_again_as.new.pass) c.loop-done.done
      c.loop-done.invariant.steps c.open_again_as.ensures.opens;
  so = unlocked_one c.args.writes.now c.args.found.now c.loop-done.done _ _ (view c.args.pass.now)
      (view c.loop-done.pass)
      (view c.open_again_as.new.pass) _ c.requires.locked.count (apart c.args.writes.now c.requires.ascending)
      c.loop-done.invariant.so c.loop-done-test.true refl c.open_again_as.ensures.opens;
}

pub returns-clause-unlocked : goal.returns-clause-unlocked
returns-clause-unlocked c =
    unlocked_all c.args.writes.now c.args.found.now (view c.args.pass.now) (view c.loop-done.pass) c.loop-done.done
    c.loop-done.invariant.so c.loop-done-test.false

pub returns-clause-steps : goal.returns-clause-steps
returns-clause-steps c =
    ends_so (view c.args.pass.now) (view c.loop-done.pass) c.loop-done.done (length c.args.writes.now)
    c.loop-done.invariant.steps c.loop-done.invariant.count c.loop-done-test.false
