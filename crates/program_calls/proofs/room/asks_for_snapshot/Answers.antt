-- Each round was looked at.
use Rattle.std.proofs.Common.{arith}
use Rattle.lists.specs.Elements.{at_below}
use Rattle.program_calls.proofs.AskedPages.{ask_more}
use Rattle.program_calls.proofs.room.asks_for_snapshot.Goals as goal

pub loop-index-preserved : goal.loop-index-preserved
loop-index-preserved c =
    ask_more c.args.script.now c.loop-index.index _ c.loop-index.invariant c.round.ensures (c.gleans.ensures c.if-gleans.false)

pub returns : goal.returns
returns c = λ none asks. c.loop-index.invariant asks.index asks.round
    (let below = at_below c.args.script.now.rounds asks.index asks.round asks.there in omega (arith, below, c.loop-index-test.false)) asks.there asks.asks
