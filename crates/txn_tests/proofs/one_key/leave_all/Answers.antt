use Rattle.std.proofs.Common.{arith}
use Rattle.engine_pages.specs.Passes.{view}
use Rattle.page_commit.proofs.LeaveLaws.{starts_leaving, leave_active, leave_within, leave_held, leave_unkept, left_one}
use Rattle.page_commit.proofs.LeaveLaws.{left_all}
use Rattle.txn_tests.proofs.one_key.leave_all.Goals as goal

pub loop-done-init : goal.loop-done-init
loop-done-init c = record {
  of = c.requires.of;
  count = omega arith;
  so = starts_leaving c.args.holds.now (view c.args.pass.now) c.requires.holds;
}

pub leave-requires-clause-pass : goal.leave-requires-clause-pass
leave-requires-clause-pass c =
    leave_active c.args.holds.now (view c.args.pass.now) (view c.loop-done.pass) c.loop-done.done c.requires.pass
    c.loop-done.invariant.so

pub leave-requires-clause-slot : goal.leave-requires-clause-slot
leave-requires-clause-slot c =
    leave_within c.args.holds.now (view c.args.pass.now) (view c.loop-done.pass) c.loop-done.done _ c.requires.holds
    c.loop-done.invariant.so c.loop-done-test.true

pub leave-requires-clause-held : goal.leave-requires-clause-held
leave-requires-clause-held c =
    leave_held c.args.holds.now (view c.args.pass.now) (view c.loop-done.pass) c.loop-done.done _
    c.loop-done.invariant.so c.loop-done-test.true

pub leave-requires-clause-unkept : goal.leave-requires-clause-unkept
leave-requires-clause-unkept c =
    leave_unkept c.args.holds.now (view c.args.pass.now) (view c.loop-done.pass) c.loop-done.done _
    c.loop-done.invariant.so c.requires.kept

pub loop-done-preserved : goal.loop-done-preserved
loop-done-preserved c = record {
  of = c.leave.ensures.of;
  count = omega arith;
  so = left_one c.args.holds.now (view c.args.pass.now) (view c.loop-done.pass) (view c.leave.new.pass)
      c.loop-done.done _ c.requires.once c.loop-done.invariant.so c.loop-done-test.true c.leave.ensures.leaves;
}

pub returns-clause-left : goal.returns-clause-left
returns-clause-left c =
    left_all c.args.holds.now (view c.args.pass.now) (view c.loop-done.pass) c.loop-done.done
    c.loop-done.invariant.so c.loop-done-test.false
