use Rattle.std.proofs.Common.{sym, ◌∙◌, arith}
use Rattle.engine_pages.specs.Passes.{view}
use Rattle.tx_runner.specs.Lines.{try_steps}
use Rattle.tx_runner.proofs.Commits.{line_committed}
use Rattle.tx_runner.proofs.Refusals.{none_tried, conflicted_more, line_ended, all_tried, tried_fits}
use Rattle.tx_runner.proofs.Refusals.{line_took, more_took}
use Rattle.tx_runner.proofs.Sums.{steps_within}
use Rattle.tx_runner.proofs.lines.run_line.Goals as goal

pub loop-tried-init : goal.loop-tried-init
loop-tried-init c = record {
  of = c.requires.of;
  within = omega arith;
  conflicted = none_tried c.args.ops.now (view c.args.pass.now) c.requires.over;
  steps = omega arith;
}

pub try_line-requires-clause-over : goal.try_line-requires-clause-over
try_line-requires-clause-over c = c.loop-tried.invariant.conflicted.tried.over

pub try_line-requires-clause-fitting : goal.try_line-requires-clause-fitting
try_line-requires-clause-fitting c = tried_fits c.args.ops.now c.loop-tried.tried (view c.args.pass.now)
    (view c.loop-tried.pass) c.loop-tried.invariant.conflicted c.requires.fitting

pub returns-in-Ok-clause-runs : goal.returns-in-Ok-clause-runs
returns-in-Ok-clause-runs c =
    line_committed c.args.ops.now c.loop-tried.tried c.args.tries c.in-Ok.verdict c.try_line.new.room.replies
    c.try_line.new.room.commit (view c.args.pass.now) (view c.loop-tried.pass) (view c.try_line.new.pass)
    c.loop-tried-test.true c.loop-tried.invariant.conflicted c.in-Ok.ensures.commits

pub returns-in-Some-clause-runs : goal.returns-in-Some-clause-runs
returns-in-Some-clause-runs c =
    line_ended c.args.ops.now c.loop-tried.tried c.args.tries c.in-Err.why c.in-Some.end c.try_line.new.room
    (view c.args.pass.now) (view c.loop-tried.pass) (view c.try_line.new.pass) c.loop-tried-test.true
    c.loop-tried.invariant.conflicted c.in-Err.ensures.refused (sym c.end_of.ensures ∙ c.in-Some.is)

pub loop-tried-preserved : goal.loop-tried-preserved
loop-tried-preserved c = record {
  of = c.try_line.ensures.of;
  within = omega arith;
  conflicted = conflicted_more c.args.ops.now c.loop-tried.tried c.in-Err.why (view c.args.pass.now)
      (view c.loop-tried.pass) (view c.try_line.new.pass) c.loop-tried.invariant.conflicted c.in-Err.ensures.refused
      (λ end is. c.in_default.not-Some end (c.end_of.ensures ∙ is));
  steps = more_took c.args.ops.now c.loop-tried.tried (view c.args.pass.now) (view c.loop-tried.pass)
      (view c.try_line.new.pass) c.loop-tried.invariant.conflicted c.loop-tried.invariant.steps
      c.try_line.ensures.steps;
}

pub returns-clause-runs : goal.returns-clause-runs
returns-clause-runs c = all_tried c.args.ops.now c.loop-tried.tried c.args.tries (view c.args.pass.now)
    (view c.loop-tried.pass) c.loop-tried.invariant.within c.loop-tried-test.false c.loop-tried.invariant.conflicted

pub returns-in-Ok-clause-steps : goal.returns-in-Ok-clause-steps
returns-in-Ok-clause-steps c = line_took c.args.ops.now c.loop-tried.tried c.args.tries (view c.args.pass.now)
    (view c.loop-tried.pass) (view c.try_line.new.pass) c.loop-tried-test.true c.loop-tried.invariant.conflicted
    c.loop-tried.invariant.steps c.try_line.ensures.steps

pub returns-in-Some-clause-steps : goal.returns-in-Some-clause-steps
returns-in-Some-clause-steps c = line_took c.args.ops.now c.loop-tried.tried c.args.tries (view c.args.pass.now)
    (view c.loop-tried.pass) (view c.try_line.new.pass) c.loop-tried-test.true c.loop-tried.invariant.conflicted
    c.loop-tried.invariant.steps c.try_line.ensures.steps

pub returns-clause-steps : goal.returns-clause-steps
returns-clause-steps c = steps_within c.loop-tried.tried c.args.tries
    (try_steps (view c.args.pass.now).layout.decls (view c.args.pass.now).layout.slots c.args.ops.now)
    (view c.args.pass.now).steps (view c.loop-tried.pass).steps c.loop-tried.invariant.within
    c.loop-tried.invariant.steps
