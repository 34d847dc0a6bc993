use Rattle.script_grammar.proofs.FlatLines.{lines_in-keeper}
use Rattle.script_grammar.proofs.FlatRounds.{on_ok}
use Rattle.script_grammar.proofs.lines.Lines.push_keeper.Goals as goal

pub returns-clause-ok : goal.returns-clause-ok
returns-clause-ok c =
    on_ok c.push_span.result _ _ c.push_span.ensures.ok (λ e. rw (e, ← c.self.view_is) (lines_in-keeper c.self.inside.ops c.self.inside.spans.items c.args.line))
