-- One line more.
use Rattle.std.proofs.Common.{◌∙◌, ◌+◌, ap, arith, sym}
use Rattle.shared_rounds.specs.Rooms.{spaces_for}
use Rattle.shared_rounds.proofs.Counts.{words_next, words_so_far}
use Rattle.shared_rounds.proofs.rooms.count_words.Goals as goal

pub loop-index-preserved : goal.loop-index-preserved
loop-index-preserved c = record {
  workers = c.add_words.ensures.workers;
  each = λ worker less.
      c.add_words.ensures.words worker less
      ∙ ap (λ n. n + spaces_for c.reply_words.result worker) (c.loop-index.invariant.each worker less)
      ∙ sym (words_next worker c.loop-index.index c.args.round.now.lines c.reply_words.result c.reply_words.ensures.is);
}

pub add_words-requires-clause-words : goal.add_words-requires-clause-words
add_words-requires-clause-words c = c.reply_words.ensures.few

pub add_words-requires-clause-few : goal.add_words-requires-clause-few
add_words-requires-clause-few c = λ other less.
    let is = c.loop-index.invariant.each other less in
    let few = words_so_far c.requires.0 other c.loop-index.index c.args.round.now c.requires.1 in
    omega (arith, is, few)
