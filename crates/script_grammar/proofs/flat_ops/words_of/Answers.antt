-- One operation more.
use Rattle.std.proofs.Common.{List, ◌∙◌, ◌+◌, ap, arith, map, sym, take_all}
use Rattle.script_grammar.specs.declared.flat_ops.FlatOp.{FlatOp}
use Rattle.script_grammar.specs.FlatOps.{op_of}
use Rattle.script_grammar.specs.ReplyRoom.{most_words}
use Rattle.script_grammar.proofs.ReplyLaws.{front_few, front_next, front_words}
use Rattle.script_grammar.proofs.flat_ops.words_of.Goals as goal

pub overflow_add-words : goal.overflow_add-words
overflow_add-words c =
    let is = c.loop-flat.invariant in
    let small = c.reply_words-words.ensures.few in
    omega (arith, is, small, front_few c.args.flats.now c.loop-flat.flat-index c.requires)

pub loop-flat-preserved : goal.loop-flat-preserved
loop-flat-preserved c =
    ap (λ n. n + c.reply_words-words.result) c.loop-flat.invariant
    ∙ ap (λ n. front_words c.args.flats.now c.loop-flat.flat-index + n) c.reply_words-words.ensures.is
    ∙ sym (front_next c.args.flats.now c.loop-flat.flat-index _ c.loop-flat-test.true)

pub returns-clause-is : goal.returns-clause-is
returns-clause-is c =
    c.loop-flat.invariant
    ∙ ap (λ (flats : List FlatOp). most_words (map op_of flats))
    (take_all c.loop-flat.flat-index c.args.flats.now c.loop-flat-test.false)

pub returns-clause-few : goal.returns-clause-few
returns-clause-few c =
    let is = c.loop-flat.invariant in
    omega (arith, is, front_few c.args.flats.now c.loop-flat.flat-index c.requires)
