use Rattle.std.proofs.Common.{take, refl, ◌∙◌}
use Rattle.script_grammar.proofs.FlatLines.{lines_in-append, lines_in-push, AreWithin-push}
use Rattle.script_grammar.proofs.FlatRounds.{on_err}
use Rattle.script_grammar.proofs.lines.Lines.push.Goals as goal

pub returns-in_err-append-clause-memory : goal.returns-in_err-append-clause-memory
returns-in_err-append-clause-memory c =
    let m = c.in_err-append.ensures.memory in
    on_err c.from_residual.result _ (rw (m.1, ← c.self.view_is) (lines_in-append c.self.inside.ops (take m.0 c.args.ops.now) c.self.inside.spans.items c.self.invariant))

pub returns-in_err-push_span-clause-memory : goal.returns-in_err-push_span-clause-memory
returns-in_err-push_span-clause-memory c =
    on_err c.from_residual-in_err-push_span.result _ (rw (c.in_err-push_span.ensures.memory, c.in_ok-append.ensures.ok, ← c.self.view_is)
    (lines_in-append c.self.inside.ops c.args.ops.now c.self.inside.spans.items c.self.invariant))

pub invariant_of-self-2 : goal.invariant_of-self-2
invariant_of-self-2 c =
    rw (c.in_ok-append.ensures.ok, c.in_ok-push_span.ensures.ok)
    (AreWithin-push c.self.inside.ops c.args.ops.now c.self.inside.spans.items c.args.worker _ _ refl (c.in-Ok.ensures.1 ∙ c.len.ensures) c.requires c.self.invariant)

pub returns-clause-ok : goal.returns-clause-ok
returns-clause-ok c =
    rw (c.in_ok-append.ensures.ok, c.in_ok-push_span.ensures.ok, ← c.self.view_is)
    (lines_in-push c.self.inside.ops c.args.ops.now c.self.inside.spans.items c.args.worker _ _ refl (c.in-Ok.ensures.1 ∙ c.len.ensures) c.self.invariant)
