use Rattle.std.proofs.Common.{◌≡◌, ◌+◌, ◌-◌, take, drop, map, sym, ap, ◌∙◌, arith}
use Rattle.std.proofs.lemmas.List.{take_all, take-map, drop-map}
use Rattle.script_grammar.specs.FlatOps.{op_of}
use Rattle.script_grammar.proofs.flat_ops.FlatOps.fill.Goals as goal

pub returns : goal.returns
returns c =
    let count : c.args.start + c.args.count - c.args.start ≡ c.args.count = omega arith in
    let all = take_all c.loop-flat.flat-index (take (c.args.start + c.args.count - c.args.start) (drop c.args.start c.as_slice.result.now)) c.loop-flat-test.false in
    c.loop-flat.invariant ∙ ap (map op_of) all ∙ rw (count, c.as_slice.ensures.value, ← c.self.view_is) (sym (take-map op_of c.args.count (drop c.args.start c.self.inside.list.items)) ∙ ap (take c.args.count) (sym (drop-map op_of c.args.start c.self.inside.list.items)))
