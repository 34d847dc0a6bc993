use Rattle.script_grammar.specs.Reading.{Parts}
use Rattle.script_grammar.proofs.GoodLines.{not_untold}
use Rattle.script_grammar.proofs.reader.Reader.kind_of.Goals as goal

pub unreachable-requires : goal.unreachable-requires
unreachable-requires c =
    let p : Parts = record { decls = c.self.inside.decls; joined = c.self.inside.rounds.joined; lines = c.self.inside.rounds.rest } in
    not_untold p c.args.line.now c.as_slice.result.now c.is_fresh.result c.rest_len.result c.as_slice.ensures (rw (← c.self.view_is) at c.is_fresh.ensures) c.rest_len.ensures c.in-None.ensures
    (rw (← c.self.view_is) at c.requires)
