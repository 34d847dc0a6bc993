use Rattle.std.proofs.Common.{[], ◌∷◌}
use Rattle.script_grammar.specs.Script.{Keeper}
use Rattle.script_grammar.proofs.FlatRounds.{rounds_more, on_ok}
use Rattle.script_grammar.proofs.rounds.Rounds.push_keeper.Goals as goal

pub returns-clause-ok : goal.returns-clause-ok
returns-clause-ok c =
    on_ok c.push_keeper.result _ _ c.push_keeper.ensures.ok (λ e. rw (e, ← c.self.view_is)
    (rounds_more c.self.inside.lines (Keeper c.args.line ∷ []) c.self.inside.joined c.self.inside.start c.self.invariant.0 c.self.invariant.1))
