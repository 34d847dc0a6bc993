-- Each wanted storage was looked for.
use Rattle.std.proofs.Common.{refl, arith}
use Rattle.std.proofs.lemmas.List.{get_or_default}
use Rattle.program_calls.proofs.DeclsTold.{among_all, among_more}
use Rattle.program_calls.proofs.shape.has_all.Goals as goal

pub loop-index-preserved : goal.loop-index-preserved
loop-index-preserved c =
    among_more c.args.decls.now c.args.wanted.now c.loop-index.index _ c.loop-index.invariant c.loop-index-test.true
    (get_or_default _ _ _ _ c.loop-index-test.true) (c.has.ensures.0 c.if-not-has.false)

pub returns : goal.returns
returns c = (
  λ is. among_all c.args.decls.now c.args.wanted.now c.loop-index.index c.loop-index.invariant (omega (arith, c.loop-index-test.false)),
  λ all. refl,
)
