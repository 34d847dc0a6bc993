use Rattle.std.proofs.Common.{length, arith}
use Rattle.engine_pages.specs.Passes.{view}
use Rattle.page_commit.proofs.StepLaws.{counts_same, more_headers, stops_headers}
use Rattle.page_commit.proofs.HeadChecks.{all_checked, can_check_head, head_conflict, head_failed, head_one, header_active}
use Rattle.page_commit.proofs.HeadChecks.{header_apart, header_in, heads_begin, slot_can, slot_checked, slot_place}
use Rattle.page_commit.proofs.HeadChecks.{slot_there}
use Rattle.page_commit.proofs.checking.check_headers.Goals as goal

pub loop-done-init : goal.loop-done-init
loop-done-init c = record {
  of = c.requires.of;
  count = omega arith;
  steps = omega arith;
  so = λ v h p. heads_begin c.args.sets.now v (view c.args.pass.now) p;
}

pub check_header-seen-requires-clause-pass : goal.check_header-seen-requires-clause-pass
check_header-seen-requires-clause-pass c =
    let s = c.requires.so in
    header_active c.args.sets.now c.loop-done.done s.0 (view c.args.pass.now) (view c.loop-done.pass) c.requires.pass s.2
    (c.loop-done.invariant.so s.0 s.1 s.2)

pub check_header-seen-requires-clause-slot : goal.check_header-seen-requires-clause-slot
check_header-seen-requires-clause-slot c =
    let s = c.requires.so in
    slot_there c.args.headers.now c.args.sets.now c.loop-done.done _ c.args.engine.now c.loop-done.pass s.0
    c.slot_of-slot.result s.1 c.requires.headers c.loop-done.invariant.of (c.loop-done.invariant.so s.0 s.1 s.2)
    c.loop-done-test.true c.slot_of-slot.ensures

pub check_header-seen-requires-clause-word : goal.check_header-seen-requires-clause-word
check_header-seen-requires-clause-word c =
    let s = c.requires.so in
    slot_place c.args.headers.now c.args.sets.now c.loop-done.done _ c.args.engine.now c.loop-done.pass s.0
    c.slot_of-slot.result s.1 c.requires.headers c.loop-done.invariant.of (c.loop-done.invariant.so s.0 s.1 s.2)
    c.loop-done-test.true c.slot_of-slot.ensures

pub check_header-seen-requires-clause-can : goal.check_header-seen-requires-clause-can
check_header-seen-requires-clause-can c =
    let s = c.requires.so in
    slot_can c.args.engine.now c.loop-done.pass _ _ c.slot_of-slot.result c.loop-done.invariant.of
    c.slot_of-slot.ensures
    (can_check_head c.args.headers.now c.args.sets.now c.loop-done.done _ s.0 (view c.loop-done.pass)
    s.1 c.requires.headers (c.loop-done.invariant.so s.0 s.1 s.2) c.loop-done-test.true)

pub returns-then-seen-header-clause-failed : goal.returns-then-seen-header-clause-failed
returns-then-seen-header-clause-failed c = λ v h p.
    head_failed c.args.sets.now c.loop-done.done _ _ c.check_header-seen.result _ v (view c.loop-done.pass)
    (view c.check_header-seen.new.pass) (c.loop-done.invariant.so v h p) c.if-seen-header.true
    c.check_header-seen.ensures.checks

pub returns-then-seen-header-clause-apart : goal.returns-then-seen-header-clause-apart
returns-then-seen-header-clause-apart c =
    let s = c.requires.so in
    header_apart c.args.sets.now _ s.0 s.1
    (header_in c.args.headers.now c.args.sets.now c.loop-done.done _ c.requires.headers c.loop-done-test.true)

pub returns-then-seen-header-clause-conflict : goal.returns-then-seen-header-clause-conflict
returns-then-seen-header-clause-conflict c = λ v h p.
    head_conflict c.args.headers.now c.args.sets.now c.loop-done.done _ c.check_header-seen.result v
    (view c.loop-done.pass) (view c.check_header-seen.new.pass) h c.requires.headers
    (c.loop-done.invariant.so v h p) c.loop-done-test.true c.if-seen-header.true
    (slot_checked c.args.engine.now c.loop-done.pass _ _ c.check_header-seen.result (view c.check_header-seen.new.pass)
    c.slot_of-slot.result c.loop-done.invariant.of c.slot_of-slot.ensures c.check_header-seen.ensures.checks)

pub loop-done-preserved : goal.loop-done-preserved
loop-done-preserved c = record {
  of = c.check_header-seen.ensures.of;
  count = omega arith;
  steps = more_headers (view c.args.pass.now) (view c.loop-done.pass) (view c.check_header-seen.new.pass)
      c.slot_of-slot.result _ _ c.loop-done.done c.check_header-seen.result c.loop-done.invariant.steps
      c.check_header-seen.ensures.checks;
  so = λ v h p.
      head_one c.args.headers.now c.args.sets.now c.loop-done.done _ c.check_header-seen.result v
      (view c.loop-done.pass) (view c.check_header-seen.new.pass) c.requires.headers (c.loop-done.invariant.so v h p)
      c.loop-done-test.true c.if-seen-header.false
      (slot_checked c.args.engine.now c.loop-done.pass _ _ c.check_header-seen.result
      (view c.check_header-seen.new.pass) c.slot_of-slot.result c.loop-done.invariant.of c.slot_of-slot.ensures
      c.check_header-seen.ensures.checks);
}

pub returns-clause-checked : goal.returns-clause-checked
returns-clause-checked c = λ v h p.
    all_checked c.args.headers.now c.args.sets.now c.loop-done.done v (view c.loop-done.pass) h c.requires.headers
    (c.loop-done.invariant.so v h p) c.loop-done-test.false

pub returns-then-seen-header-clause-most : goal.returns-then-seen-header-clause-most
returns-then-seen-header-clause-most c =
    let count = counts_same c.args.headers.now c.args.sets.now.headers c.requires.headers in
    let most = stops_headers (view c.args.pass.now) (view c.loop-done.pass) (view c.check_header-seen.new.pass)
    c.slot_of-slot.result _ _ c.loop-done.done (length c.args.headers.now) c.check_header-seen.result
    c.loop-done.invariant.steps c.loop-done-test.true c.check_header-seen.ensures.checks in omega (arith, count, most)

pub returns-clause-steps : goal.returns-clause-steps
returns-clause-steps c =
    let count = counts_same c.args.headers.now c.args.sets.now.headers c.requires.headers in
    let steps = c.loop-done.invariant.steps in
    let low = c.loop-done.invariant.count in
    let high = c.loop-done-test.false in omega (arith, count, steps, low, high)
