use Rattle.std.proofs.Common.{sym, ap, ◌∙◌, ◌∷◌}
use Rattle.script_grammar.proofs.WordCuts.{no_fourth}
use Rattle.script_grammar.proofs.read_line.decl_at.Goals as goal

pub returns-in-Some-cut : goal.returns-in-Some-cut
returns-in-Some-cut c =
    sym (no_fourth c.args.line.now c.in_ok-word.word.now c.in-Some.id.now c.in-Some-cut.field-0.0.now c.in-Some-cut.field-0.1.now
    (c.in_ok-word.ensures.parts ∙ ap (λ ws. c.in_ok-word.word.now ∷ ws) (c.in-Some.ensures.parts ∙ ap (λ ws. c.in-Some.id.now ∷ ws) c.in-Some-cut.ensures.parts)))
