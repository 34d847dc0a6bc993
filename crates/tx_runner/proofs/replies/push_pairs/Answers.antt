-- There is room for the next row.
use Rattle.std.proofs.Common.{arith}
use Rattle.tx_runner.proofs.Words.{row_room, word_more}
use Rattle.tx_runner.proofs.replies.push_pairs.Goals as goal

pub push-requires : goal.push-requires
push-requires c =
    let room = row_room c.loop-index.words c.args.words.now c.args.pairs.now c.loop-index.index c.loop-index.invariant
    (omega arith) c.requires in
    omega (arith, room)

pub push-requires-in-loop-index : goal.push-requires-in-loop-index
push-requires-in-loop-index c =
    let room = row_room c.loop-index.words c.args.words.now c.args.pairs.now c.loop-index.index c.loop-index.invariant
    (omega arith) c.requires in
    omega (arith, room, word_more _ c.loop-index.words c.push.new.self c.push.ensures)
