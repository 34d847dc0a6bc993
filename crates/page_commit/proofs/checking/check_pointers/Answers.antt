use Rattle.std.proofs.Common.{length, arith}
use Rattle.engine_pages.specs.Passes.{view}
use Rattle.page_commit.proofs.CheckLaws.{check_active}
use Rattle.page_commit.proofs.StepLaws.{counts_same, more_pointers, stops_pointers}
use Rattle.page_commit.proofs.PointerLaws.{can_check_pointer, pointer_in, pointer_one, pointer_failed_one, pointer_clear}
use Rattle.page_commit.proofs.PointerLaws.{pointer_conflict, pointers_checked, tried_worker}
use Rattle.page_commit.proofs.PointerLaws.{word_within}
use Rattle.page_commit.proofs.checking.check_pointers.Goals as goal

pub loop-done-init : goal.loop-done-init
loop-done-init c = record {
  of = c.requires.of;
  count = omega arith;
  steps = omega arith;
  so = λ v h p. p;
}

pub check_pointer-seen-requires-clause-pass : goal.check_pointer-seen-requires-clause-pass
check_pointer-seen-requires-clause-pass c =
    let s = c.requires.so in
    check_active c.args.sets.now (length c.args.sets.now.reads) c.loop-done.done s.0 (view c.loop-done.pass)
    (tried_worker c.args.sets.now (length c.args.sets.now.reads) s.0 (view c.args.pass.now) c.requires.pass s.2)
    (c.loop-done.invariant.so s.0 s.1 s.2)

pub check_pointer-seen-requires-clause-can : goal.check_pointer-seen-requires-clause-can
check_pointer-seen-requires-clause-can c =
    let s = c.requires.so in
    can_check_pointer c.args.pointers.now c.args.sets.now c.loop-done.done _ s.0 (view c.loop-done.pass)
    s.1 c.requires.once c.requires.pointers (c.loop-done.invariant.so s.0 s.1 s.2) c.loop-done-test.true

pub check_pointer-seen-requires-clause-word : goal.check_pointer-seen-requires-clause-word
check_pointer-seen-requires-clause-word c =
    let s = c.requires.so in
    word_within c.args.pointers.now c.args.sets.now c.loop-done.done _ s.0 (view c.loop-done.pass) s.1 c.requires.pointers
    (c.loop-done.invariant.so s.0 s.1 s.2) c.loop-done-test.true

pub returns-then-seen-pointer-clause-failed : goal.returns-then-seen-pointer-clause-failed
returns-then-seen-pointer-clause-failed c = λ v h p.
    pointer_failed_one c.args.sets.now (length c.args.sets.now.reads) c.loop-done.done _ _ c.check_pointer-seen.result v
    (view c.loop-done.pass) (view c.check_pointer-seen.new.pass) (c.loop-done.invariant.so v h p) c.if-seen-pointer.true
    c.check_pointer-seen.ensures.checks

pub returns-then-seen-pointer-clause-apart : goal.returns-then-seen-pointer-clause-apart
returns-then-seen-pointer-clause-apart c =
    let s = c.requires.so in
    pointer_clear c.args.sets.now _ s.0 s.1
    (pointer_in c.args.pointers.now c.args.sets.now c.loop-done.done _ c.requires.pointers c.loop-done-test.true)

pub returns-then-seen-pointer-clause-conflict : goal.returns-then-seen-pointer-clause-conflict
returns-then-seen-pointer-clause-conflict c = λ v h p.
    pointer_conflict c.args.pointers.now c.args.sets.now c.loop-done.done _ c.check_pointer-seen.result v
    (view c.loop-done.pass) (view c.check_pointer-seen.new.pass) h c.requires.once c.requires.pointers
    (c.loop-done.invariant.so v h p) c.loop-done-test.true c.if-seen-pointer.true
    c.check_pointer-seen.ensures.checks

pub loop-done-preserved : goal.loop-done-preserved
loop-done-preserved c = record {
  of = c.check_pointer-seen.ensures.of;
  count = omega arith;
  steps = more_pointers (view c.args.pass.now) (view c.loop-done.pass) (view c.check_pointer-seen.new.pass)
      _ _ _ c.loop-done.done c.check_pointer-seen.result c.loop-done.invariant.steps
      c.check_pointer-seen.ensures.checks;
  so = λ v h p.
      pointer_one c.args.pointers.now c.args.sets.now c.loop-done.done _ c.check_pointer-seen.result v
      (view c.loop-done.pass) (view c.check_pointer-seen.new.pass) c.requires.pointers (c.loop-done.invariant.so v h p)
      c.loop-done-test.true c.if-seen-pointer.false
      c.check_pointer-seen.ensures.checks;
}

pub returns-clause-checked : goal.returns-clause-checked
returns-clause-checked c = λ v h p.
    pointers_checked c.args.pointers.now c.args.sets.now c.loop-done.done v (view c.loop-done.pass) c.requires.pointers
    (c.loop-done.invariant.so v h p) c.loop-done-test.false

pub returns-then-seen-pointer-clause-most : goal.returns-then-seen-pointer-clause-most
returns-then-seen-pointer-clause-most c =
    let count = counts_same c.args.pointers.now c.args.sets.now.pointers c.requires.pointers in
    let most = stops_pointers (view c.args.pass.now) (view c.loop-done.pass) (view c.check_pointer-seen.new.pass)
    _ _ _ c.loop-done.done (length c.args.pointers.now) c.check_pointer-seen.result
    c.loop-done.invariant.steps c.loop-done-test.true c.check_pointer-seen.ensures.checks in omega (arith, count, most)

pub returns-clause-steps : goal.returns-clause-steps
returns-clause-steps c =
    let count = counts_same c.args.pointers.now c.args.sets.now.pointers c.requires.pointers in
    let steps = c.loop-done.invariant.steps in
    let low = c.loop-done.invariant.count in
    let high = c.loop-done-test.false in omega (arith, count, steps, low, high)
