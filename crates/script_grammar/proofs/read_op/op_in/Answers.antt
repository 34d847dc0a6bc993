use Rattle.std.proofs.Common.{sym, ap, ◌∙◌, ◌∷◌}
use Rattle.script_grammar.proofs.WordCuts.{no_fifth}
use Rattle.script_grammar.proofs.read_op.op_in.Goals as goal

pub returns-in-Some-cut : goal.returns-in-Some-cut
returns-in-Some-cut c =
    sym (no_fifth c.args.part.now c.in_ok-word.word.now c.in_ok-storage.storage.now c.in-Some.key.now c.in-Some-cut.field-0.0.now c.in-Some-cut.field-0.1.now
    (c.in_ok-word.ensures.parts ∙ ap (λ ws. c.in_ok-word.word.now ∷ ws) (c.in_ok-storage.ensures.parts ∙ ap (λ ws. c.in_ok-storage.storage.now ∷ ws)
    (c.in-Some.ensures.parts ∙ ap (λ ws. c.in-Some.key.now ∷ ws) c.in-Some-cut.ensures.parts))))
