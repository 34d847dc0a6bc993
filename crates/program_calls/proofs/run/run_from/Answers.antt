-- Rounds are run until one ends the run.
use Rattle.std.proofs.Common.{◌≡◌, ◌∙◌, length, refl, arith}
use Rattle.std.proofs.lemmas.Result.{err_from_is_err_and}
use Rattle.program_calls.proofs.Here.{here}
use Rattle.program_calls.proofs.ToldRounds.{next_can_count, next_can_run, none_yet, told_all, told_broke, told_end, told_on}
use Rattle.program_calls.proofs.run.run_from.Goals as goal

pub loop-index-init : goal.loop-index-init
loop-index-init g c = record {
  told = λ was begins. none_yet _ _ _ _ _ _ _ _ was _ _ _ _ _ (g.met.D.Disk g.world.𝓛 g.world.𝓜 g.world.𝓡 (here _)).reads c.requires.fresh begins;
  kind = refl;
  script = refl;
  end = c.rounds-index-end.ensures;
  within = omega arith;
}

-- ---- a round can be run

pub run_round-requires-clause-lines : goal.run_round-requires-clause-lines
run_round-requires-clause-lines g c κs within =
    next_can_run _ _ _ _ _ _ _ _ _ _ _ _ _ _ _ _ c.round-lines.result (c.loop-index.invariant.told c.requires.begun.0 c.requires.begun.1) c.requires.rules c.round-lines.ensures

pub run_round-requires-clause-goes_on : goal.run_round-requires-clause-goes_on
run_round-requires-clause-goes_on g c κs within = (c.loop-index.invariant.told c.requires.begun.0 c.requires.begun.1).so.unended

pub run_round-requires-clause-stands : goal.run_round-requires-clause-stands
run_round-requires-clause-stands g c κs within = (c.loop-index.invariant.told c.requires.begun.0 c.requires.begun.1).so.stands

pub run_round-requires-clause-few : goal.run_round-requires-clause-few
run_round-requires-clause-few g c κs within =
    next_can_count _ _ _ _ _ _ _ _ _ _ _ _ _ _ _ _ _ c.round-lines.result (c.loop-index.invariant.told c.requires.begun.0 c.requires.begun.1) c.round-lines.ensures
    c.loop-index.invariant.kind c.requires.few

-- ---- it was run

pub returns-in_err-ended : goal.returns-in_err-ended
returns-in_err-ended g c = λ was begins.
    let p = err_from_is_err_and c.from_residual.result c.from_residual.ensures.1 in
    rw p.1 (told_broke _ _ _ _ _ _ _ _ was (g.met.D.Disk g.world.𝓛 g.world.𝓜 g.world.𝓡 (here _)).reads _ _ _ _ _ _ _ _ _ _ _ _ _ _ _ (c.loop-index.invariant.told was begins)
    c.round-lines.ensures c.loop-index.invariant.kind c.in_err-ended.ensures.runs)

pub returns-in-Some : goal.returns-in-Some
returns-in-Some g c = λ was begins. rw c.ending_of.ensures
    (told_end _ _ _ _ _ _ _ _ was (g.met.D.Disk g.world.𝓛 g.world.𝓜 g.world.𝓡 (here _)).reads _ _ _ _ _ _ _ _ _ _ _ _ _ c.in-Some.end (c.loop-index.invariant.told was begins)
    c.round-lines.ensures c.loop-index.invariant.kind (rw c.in-Some.is at c.in_ok-ended.ensures.runs))

pub loop-index-preserved : goal.loop-index-preserved
loop-index-preserved g c = record {
  told = λ was begins. told_on _ _ _ _ _ _ _ _ was _ _ _ _ _ _ _ _ _ _ _ _ _ (c.loop-index.invariant.told was begins)
      c.round-lines.ensures c.loop-index.invariant.kind (rw c.in_default.is at c.in_ok-ended.ensures.runs);
  kind = c.in_ok-ended.ensures.kind ∙ c.loop-index.invariant.kind;
  script = refl;
  end = c.rounds-index-end.ensures;
  within = omega (arith, c.loop-index-test.true);
}

pub returns : goal.returns
returns g c = λ was begins.
    let kept = c.loop-index.invariant in
    let all : c.loop-index.index ≡ length c.args.script.now.rounds =
    (let test = c.loop-index-test.false in let most = kept.within in let end = c.rounds-index-end.ensures in omega arith) in
    told_all _ _ _ _ _ _ _ _ was (g.met.D.Disk g.world.𝓛 g.world.𝓜 g.world.𝓡 (here _)).reads _ _ _ _ _ _ _ _ (kept.told was begins) all refl
