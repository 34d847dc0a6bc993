use Rattle.std.proofs.Common.{◌≡◌, ◌+◌, ◌-◌, take, drop, map, sym, ap, ◌∙◌, arith, length-take}
use Rattle.std.proofs.lemmas.List.{take-map, drop-map}
use Rattle.script_grammar.specs.FlatOps.{op_of}
use Rattle.script_grammar.specs.ReplyRoom.{most_words}
use Rattle.script_grammar.proofs.flat_ops.FlatOps.reply_words.Goals as goal

pub words_of-requires : goal.words_of-requires
words_of-requires c =
    let short = length-take (c.args.start + c.args.count - c.args.start) (drop c.args.start c.as_slice.result.now) in
    let few = c.requires.few in omega (arith, short, few)

pub returns-clause-is : goal.returns-clause-is
returns-clause-is c =
    let count : c.args.start + c.args.count - c.args.start ≡ c.args.count = omega arith in
    let same : map op_of (take (c.args.start + c.args.count - c.args.start) (drop c.args.start c.as_slice.result.now))
    ≡ take c.args.count (drop c.args.start c.args.self.now) =
    rw (count, c.as_slice.ensures.value, ← c.self.view_is)
    (sym (take-map op_of c.args.count (drop c.args.start c.self.inside.list.items))
    ∙ ap (take c.args.count) (sym (drop-map op_of c.args.start c.self.inside.list.items))) in
    c.words_of.ensures.is ∙ ap most_words same
