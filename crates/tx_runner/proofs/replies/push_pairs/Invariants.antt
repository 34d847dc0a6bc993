-- The first rows are behind the words.
use Rattle.std.proofs.Common.{◌≡◌, ◌++◌, take}
use Rattle.serial_model.specs.ReplyWords.{rows_words}
use Rattle.tx_runner.proofs.replies.push_pairs.Given as goal

abbrev pub invariant-loop-index : goal.invariant-loop-index
invariant-loop-index l = l.words ≡ l.fn.words ++ rows_words (take l.index l.pairs)
