use Rattle.std.proofs.Common.{refl, ◌∙◌, arith}
use Rattle.std.proofs.lemmas.List.{length-set}
use Rattle.engine_pages.specs.Passes.{view}
use Rattle.tx_runner.proofs.LoadedMarks.{none_met, met_active, met_more, met_all}
use Rattle.tx_runner.proofs.marking.marks.Goals as goal

pub loop-met-init : goal.loop-met-init
loop-met-init c = record {
  of = c.requires.of;
  all = refl;
  within = omega arith;
  loaded = none_met _ (view c.args.pass.now) refl;
}

pub load_mark-word-requires-clause-pass : goal.load_mark-word-requires-clause-pass
load_mark-word-requires-clause-pass c = met_active _ (view c.args.pass.now) (view c.loop-met.pass) c.requires.pass
    c.loop-met.invariant.loaded

pub mark_of-requires : goal.mark_of-requires
mark_of-requires c = let met = c.load_mark-word.ensures.meets in (met.mark, met.small, met.found)

pub loop-met-preserved : goal.loop-met-preserved
loop-met-preserved c = record {
  of = c.load_mark-word.ensures.of;
  all = length-set c.loop-met.marks c.loop-met.met c.mark_of.result ∙ c.loop-met.invariant.all;
  within = omega arith;
  loaded = met_more c.loop-met.marks c.mark_of.result c.loop-met.met c.load_mark-word.result (view c.args.pass.now)
      (view c.loop-met.pass) (view c.load_mark-word.new.pass)
      (omega (arith, c.loop-met.invariant.all, c.loop-met-test.true))
      c.loop-met.invariant.loaded c.load_mark-word.ensures.meets c.mark_of.ensures.mark c.mark_of.ensures.word;
}

pub returns-clause-met : goal.returns-clause-met
returns-clause-met c = met_all c.loop-met.marks c.loop-met.met (view c.args.pass.now) (view c.loop-met.pass)
    (omega (arith, c.loop-met.invariant.all, c.loop-met-test.false)) c.loop-met.invariant.loaded
