use Rattle.std.proofs.Common.{◌+◌, List, [], ◌∷◌, ◌++◌, ap, ◌∙◌, arith}
use Rattle.script_grammar.specs.Script.{Line, Worker}
use Rattle.script_grammar.specs.declared.lines.Span.TheVariants as span
use Rattle.script_grammar.proofs.FlatLines.{lines_in-append, AreWithin-push}
use Rattle.script_grammar.proofs.FrontLines.{some_more, line_there, line_added}
use Rattle.script_grammar.proofs.lines.Lines.take.Goals as goal

pub returns-in_default : goal.returns-in_default
returns-in_default c =
    let more = some_more c.in_ok-count.field-0 c.args.bytes.now (c.args.at + 2) c.args.storages.now c.self.inside.ops c.take.new.self c.in_ok-count.ensures in
    rw (more.1, c.reserve.ensures.items, ← c.self.view_is) (lines_in-append c.self.inside.ops more.0 c.self.inside.spans.items c.self.invariant)

pub invariant_of-self-2 : goal.invariant_of-self-2
invariant_of-self-2 c =
    let adds = rw c.in-Some.is at c.in_ok-count.ensures in
    rw (adds.added, c.push_reserved.ensures.items, c.reserve.ensures.items)
    (AreWithin-push c.self.inside.ops adds.ops c.self.inside.spans.items c.digit_at-worker.result c.in-Some.count c.len-start.result adds.counted c.len-start.ensures adds.are.few c.self.invariant)

pub returns : goal.returns
returns c =
    let adds = rw c.in-Some.is at c.in_ok-count.ensures in
    let worker = c.digit_at-worker.result in
    let pushed = c.push_reserved.ensures.items ∙ ap (λ xs. xs ++ span.Worker worker c.in-Some.count c.len-start.result ∷ []) c.reserve.ensures.items in
    record {
      worker = worker;
      ops = adds.ops;
      is = line_there c.args.bytes.now c.args.at c.args.storages.now worker adds.ops c.in-Some.end (omega arith) (omega arith) (c.digit_at-worker.ensures (omega arith)) c.if-bytes-at-ne32.false adds.are;
      added = line_added c.args.bytes.now (c.args.at + 2) c.args.storages.now c.self.inside.ops c.take.new.self c.self.inside.spans.items c.push_reserved.new.self.items worker c.in-Some.count c.in-Some.end c.len-start.result
          adds pushed c.len-start.ensures c.self.invariant ∙ ap (λ (ls : List Line). ls ++ Worker worker adds.ops ∷ []) c.self.view_is;
    }
