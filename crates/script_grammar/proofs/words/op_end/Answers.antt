use Rattle.std.proofs.Common.{◌≡◌, true, false, drop}
use Rattle.std.proofs.lemmas.List.{take_rest}
use Rattle.script_grammar.specs.Words.{begins_separator}
use Rattle.script_grammar.proofs.Parts.{front_none, op_more, op_found}
use Rattle.script_grammar.proofs.words.op_end.Goals as goal

pub loop-index-init : goal.loop-index-init
loop-index-init c = front_none c.args.ops.now

pub returns-then-begins_separator : goal.returns-then-begins_separator
returns-then-begins_separator c =
    let rest = take_rest c.args.ops.now c.loop-index.index in
    let here : begins_separator (drop c.loop-index.index c.args.ops.now) ≡ true = cc in
    op_found c.args.ops.now c.loop-index.index here c.loop-index.invariant

pub loop-index-preserved : goal.loop-index-preserved
loop-index-preserved c =
    let rest = take_rest c.args.ops.now c.loop-index.index in
    let here : begins_separator (drop c.loop-index.index c.args.ops.now) ≡ false = cc in
    op_more c.args.ops.now c.loop-index.index c.loop-index-test.true here c.loop-index.invariant
