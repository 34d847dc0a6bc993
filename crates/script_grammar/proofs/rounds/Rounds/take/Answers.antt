use Rattle.script_grammar.proofs.FrontLines.{rounds_kept}
use Rattle.script_grammar.proofs.rounds.Rounds.take.Goals as goal

pub returns-clause-joined : goal.returns-clause-joined
returns-clause-joined c = rw (← c.self.view_is)
    (rounds_kept c.take.result c.args.bytes.now c.args.at c.args.storages.now c.self.inside.lines c.take.new.self c.self.inside.joined c.self.inside.start c.take.ensures c.self.invariant.0 c.self.invariant.1).1
