use Rattle.std.specs.Prelude.{Err}
use Rattle.std.proofs.Common.{◌≡◌, arith}
use Rattle.std.proofs.lemmas.Result.{err_from_is_err_and}
use Rattle.engine_pages.specs.Passes.{view}
use Rattle.tx_runner.specs.Lines.{op_steps}
use Rattle.tx_runner.proofs.Answered.{run_none, run_on, run_ended, run_all, taken_all, loaded_fits, kept_so}
use Rattle.tx_runner.proofs.Answered.{all_took, cause_among, dropped_so}
use Rattle.tx_runner.proofs.Standing.{refused_since}
use Rattle.tx_runner.proofs.Sums.{sum_within}
use Rattle.tx_runner.proofs.tries.run_ops.Goals as goal

pub loop-done-init : goal.loop-done-init
loop-done-init c = record {
  of = c.requires.of;
  some = run_none c.args.ops.now c.args.replies.now c.args.txn.now.sets (view c.args.pass.now) c.requires.none
      c.requires.live c.requires.empty c.requires.run;
}

pub run_op-requires-clause-live : goal.run_op-requires-clause-live
run_op-requires-clause-live c = c.loop-done.invariant.some.live

pub run_op-requires-clause-fitting : goal.run_op-requires-clause-fitting
run_op-requires-clause-fitting c = loaded_fits c.args.ops.now _ c.loop-done.done (view c.args.pass.now)
    (view c.loop-done.pass) c.requires.fitting c.loop-done-test.true c.loop-done.invariant.some.only

pub run_op-requires-clause-room : goal.run_op-requires-clause-room
run_op-requires-clause-room c =
    omega (arith, c.loop-done.invariant.some.few, c.loop-done-test.true, c.requires.few)

pub loop-done-preserved : goal.loop-done-preserved
loop-done-preserved c = record {
  of = c.run_op.ensures.of;
  some = run_on c.args.ops.now _ c.loop-done.done c.in_ok-verdict.verdict c.loop-done.replies _ c.loop-done.txn.sets _
      (view c.args.pass.now) (view c.loop-done.pass) (view c.run_op.new.pass) c.loop-done-test.true
      (kept_so c.in_ok-verdict.verdict c.keeps.result c.keeps.ensures c.if-not-keeps.false)
      (loaded_fits c.args.ops.now _ c.loop-done.done (view c.args.pass.now) (view c.loop-done.pass) c.requires.fitting
      c.loop-done-test.true c.loop-done.invariant.some.only) c.loop-done.invariant.some
      c.in_ok-verdict.ensures.runs.answers
      c.run_op.ensures.runs.steps c.run_op.ensures.runs.grows;
}

pub returns-in_err-verdict-clause-refused : goal.returns-in_err-verdict-clause-refused
returns-in_err-verdict-clause-refused c =
    let p = err_from_is_err_and c.from_residual.result c.from_residual.ensures.1 in
    let told : c.from_residual.result ≡ Err c.in_err-verdict.field-0.0 = let a = p.1 in let b = p.2 in cc in
    rw told (refused_since c.args.ops.now c.in_err-verdict.field-0.0 (view c.args.pass.now) (view c.loop-done.pass)
    (view c.run_op.new.pass) c.loop-done.invariant.some.only c.in_err-verdict.ensures.runs.refused)

pub returns-in_err-verdict-clause-cause : goal.returns-in_err-verdict-clause-cause
returns-in_err-verdict-clause-cause c =
    let p = err_from_is_err_and c.from_residual.result c.from_residual.ensures.1 in
    let told : c.from_residual.result ≡ Err c.in_err-verdict.field-0.0 = let a = p.1 in let b = p.2 in cc in
    rw told (cause_among c.args.ops.now _ c.loop-done.done c.loop-done.txn.sets c.in_err-verdict.field-0.0
    (view c.args.pass.now) (view c.loop-done.pass) (view c.run_op.new.pass) c.loop-done-test.true c.requires.few
    c.loop-done.invariant.some.only c.loop-done.invariant.some.sized c.loop-done.invariant.some.counted
    c.in_err-verdict.ensures.runs.cause)

pub returns-then-not-keeps-clause-answers : goal.returns-then-not-keeps-clause-answers
returns-then-not-keeps-clause-answers c =
    run_ended c.args.ops.now _ c.loop-done.done c.in_ok-verdict.verdict c.loop-done.replies _ c.loop-done.txn.sets _
    (view c.args.pass.now) (view c.loop-done.pass) (view c.run_op.new.pass) c.loop-done-test.true
    (dropped_so c.in_ok-verdict.verdict c.keeps.result c.keeps.ensures c.if-not-keeps.true)
    (loaded_fits c.args.ops.now _ c.loop-done.done (view c.args.pass.now) (view c.loop-done.pass) c.requires.fitting
    c.loop-done-test.true c.loop-done.invariant.some.only) c.loop-done.invariant.some
    c.in_ok-verdict.ensures.runs.answers c.run_op.ensures.runs.grows

pub returns-clause-answers : goal.returns-clause-answers
returns-clause-answers c =
    run_all c.args.ops.now c.loop-done.done c.loop-done.replies c.loop-done.txn.sets (view c.args.pass.now)
    (view c.loop-done.pass) (taken_all c.args.ops.now c.loop-done.done c.loop-done-test.false)
    c.loop-done.invariant.some

pub returns-in_err-verdict-clause-steps : goal.returns-in_err-verdict-clause-steps
returns-in_err-verdict-clause-steps c =
    all_took c.args.ops.now _ c.loop-done.done (view c.args.pass.now) (view c.loop-done.pass) (view c.run_op.new.pass)
    c.loop-done-test.true c.loop-done.invariant.some.only c.loop-done.invariant.some.steps c.run_op.ensures.runs.steps

pub returns-then-not-keeps-clause-steps : goal.returns-then-not-keeps-clause-steps
returns-then-not-keeps-clause-steps c =
    all_took c.args.ops.now _ c.loop-done.done (view c.args.pass.now) (view c.loop-done.pass) (view c.run_op.new.pass)
    c.loop-done-test.true c.loop-done.invariant.some.only c.loop-done.invariant.some.steps c.run_op.ensures.runs.steps

pub returns-clause-steps : goal.returns-clause-steps
returns-clause-steps c =
    sum_within (op_steps (view c.args.pass.now).layout.decls (view c.args.pass.now).layout.slots) c.args.ops.now
    c.loop-done.done (view c.args.pass.now).steps (view c.loop-done.pass).steps c.loop-done.invariant.some.steps
