use Rattle.std.proofs.Common.{◌-◌, drop, arith, length-take}
use Rattle.script_grammar.specs.Lines.{line_lent}
use Rattle.script_grammar.proofs.FlatRounds.{line_of_stretch}
use Rattle.script_grammar.proofs.rounds.Round.line.Goals as goal

pub prove-unreachable-requires : goal.prove-unreachable-requires
prove-unreachable-requires c =
    let below = rw (← c.self.view_is) at c.requires in
    let len = length-take (c.self.inside.end - c.self.inside.start) (drop c.self.inside.start c.self.inside.lines.now) in
    omega (arith, below, len)

pub returns : goal.returns
returns c =
    let below = rw (← c.self.view_is) at c.requires in
    rw (← c.self.view_is)
    (line_of_stretch c.self.inside.lines.now c.self.inside.start c.self.inside.end c.args.index (line_lent c.line.result) c.self.invariant.0 c.self.invariant.1 below c.line.ensures)
