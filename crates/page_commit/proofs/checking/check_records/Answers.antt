use Rattle.std.proofs.Common.{length, arith}
use Rattle.engine_pages.specs.Passes.{view}
use Rattle.page_commit.proofs.StepLaws.{counts_same}
use Rattle.page_commit.proofs.CheckLaws.{starts_checking, check_active, can_check_one, word_small}
use Rattle.page_commit.proofs.CheckLaws.{checked_one, check_conflict, entry_in, records_checked}
use Rattle.page_commit.proofs.CheckLaws.{apart_here, entry_here, failed_here, more_here, own_here, stops_here}
use Rattle.page_commit.proofs.checking.check_records.Goals as goal

pub loop-done-init : goal.loop-done-init
loop-done-init c = record {
  of = c.requires.of;
  count = omega arith;
  steps = omega arith;
  so = starts_checking c.args.sets.now (view c.args.pass.now) c.requires.tried;
}

pub check_as-seen-requires-clause-pass : goal.check_as-seen-requires-clause-pass
check_as-seen-requires-clause-pass c =
    check_active c.args.sets.now c.loop-done.done 0 (view c.args.pass.now) (view c.loop-done.pass) c.requires.pass
    c.loop-done.invariant.so

pub check_as-seen-requires-clause-place : goal.check_as-seen-requires-clause-place
check_as-seen-requires-clause-place c =
    entry_here c.args.reads.now c.args.sets.now c.loop-done.done _ (view c.args.pass.now) (view c.loop-done.pass)
    c.requires.tried c.requires.reads c.loop-done.invariant.so c.loop-done-test.true

pub check_as-seen-requires-clause-part : goal.check_as-seen-requires-clause-part
check_as-seen-requires-clause-part c =
    can_check_one c.args.reads.now c.args.sets.now c.loop-done.done _ (view c.args.pass.now) (view c.loop-done.pass)
    c.requires.tried c.requires.once c.requires.reads c.loop-done.invariant.so c.loop-done-test.true

pub check_as-seen-requires-clause-own : goal.check_as-seen-requires-clause-own
check_as-seen-requires-clause-own c =
    own_here c.args.reads.now c.args.sets.now c.loop-done.done _ c.contains_record-own.result (view c.args.pass.now)
    (view c.loop-done.pass) c.requires.tried c.requires.reads c.loop-done.invariant.so c.loop-done-test.true
    c.contains_record-own.ensures

pub is_as_read-requires : goal.is_as_read-requires
is_as_read-requires c =
    word_small c.args.sets.now _ (view c.args.pass.now) c.requires.tried
    (entry_in c.args.reads.now c.args.sets.now c.loop-done.done _ c.requires.reads c.loop-done-test.true)

pub returns-then-not-is_as_read-clause-failed : goal.returns-then-not-is_as_read-clause-failed
returns-then-not-is_as_read-clause-failed c =
    failed_here c.args.reads.now c.args.sets.now c.loop-done.done _ c.contains_record-own.result c.is_as_read.result
    c.check_as-seen.result (view c.args.pass.now) (view c.loop-done.pass) (view c.check_as-seen.new.pass)
    c.loop-done.invariant.so c.is_as_read.ensures c.if-not-is_as_read.true c.check_as-seen.ensures.checks

pub returns-then-not-is_as_read-clause-apart : goal.returns-then-not-is_as_read-clause-apart
returns-then-not-is_as_read-clause-apart c =
    apart_here c.args.reads.now c.args.sets.now c.loop-done.done _ c.contains_record-own.result c.is_as_read.result
    c.check_as-seen.result (view c.args.pass.now) (view c.loop-done.pass) c.requires.tried c.requires.once
    c.requires.reads c.loop-done.invariant.so c.loop-done-test.true c.contains_record-own.ensures c.is_as_read.ensures
    c.if-not-is_as_read.true c.check_as-seen.ensures.held

pub returns-then-not-is_as_read-clause-conflict : goal.returns-then-not-is_as_read-clause-conflict
returns-then-not-is_as_read-clause-conflict c =
    check_conflict c.args.reads.now c.args.sets.now c.loop-done.done _ c.contains_record-own.result c.is_as_read.result
    c.check_as-seen.result (view c.args.pass.now) (view c.loop-done.pass) (view c.check_as-seen.new.pass)
    c.requires.tried c.requires.once c.requires.reads c.loop-done.invariant.so c.loop-done-test.true
    c.contains_record-own.ensures c.is_as_read.ensures c.if-not-is_as_read.true c.check_as-seen.ensures.checks
    c.check_as-seen.ensures.held

pub loop-done-preserved : goal.loop-done-preserved
loop-done-preserved c = record {
  of = c.check_as-seen.ensures.of;
  count = omega arith;
  steps = more_here c.args.reads.now c.loop-done.done _ c.contains_record-own.result c.check_as-seen.result
      (view c.args.pass.now) (view c.loop-done.pass) (view c.check_as-seen.new.pass) c.loop-done.invariant.steps
      c.check_as-seen.ensures.checks;
  so = checked_one c.args.reads.now c.args.sets.now c.loop-done.done _ c.contains_record-own.result c.is_as_read.result
      c.check_as-seen.result (view c.args.pass.now) (view c.loop-done.pass) (view c.check_as-seen.new.pass)
      c.requires.reads c.loop-done.invariant.so c.loop-done-test.true c.is_as_read.ensures c.if-not-is_as_read.false
      c.check_as-seen.ensures.checks;
}

pub returns-clause-checked : goal.returns-clause-checked
returns-clause-checked c =
    records_checked c.args.reads.now c.args.sets.now c.loop-done.done (view c.args.pass.now) (view c.loop-done.pass)
    c.requires.reads c.loop-done.invariant.so c.loop-done.invariant.count c.loop-done-test.false

pub returns-then-not-is_as_read-clause-most : goal.returns-then-not-is_as_read-clause-most
returns-then-not-is_as_read-clause-most c =
    let count = counts_same c.args.reads.now c.args.sets.now.reads c.requires.reads in
    let most = stops_here c.args.reads.now c.loop-done.done _ c.contains_record-own.result c.check_as-seen.result
    (view c.args.pass.now) (view c.loop-done.pass) (view c.check_as-seen.new.pass) c.loop-done.invariant.steps
    c.loop-done-test.true c.check_as-seen.ensures.checks in omega (arith, count, most)

pub returns-clause-steps : goal.returns-clause-steps
returns-clause-steps c =
    let count = counts_same c.args.reads.now c.args.sets.now.reads c.requires.reads in
    let steps = c.loop-done.invariant.steps in
    let low = c.loop-done.invariant.count in
    let high = c.loop-done-test.false in omega (arith, count, steps, low, high)
