-- Each line was looked at.
use Rattle.std.proofs.Common.{arith}
use Rattle.program_calls.proofs.AskedPages.{glean_more, no_glean}
use Rattle.program_calls.proofs.room.gleans.Goals as goal

pub loop-index-preserved : goal.loop-index-preserved
loop-index-preserved c =
    glean_more c.args.round.now.lines c.loop-index.index _ c.loop-index.invariant c.keeper.ensures (c.is_glean.ensures c.if-is_glean.false)

pub returns : goal.returns
returns c = λ none. no_glean c.args.round.now.lines (λ k below. c.loop-index.invariant k (omega (arith, below, c.loop-index-test.false)))
