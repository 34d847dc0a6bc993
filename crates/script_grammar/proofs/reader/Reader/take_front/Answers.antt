use Rattle.script_grammar.proofs.FrontLines.{may_read}
use Rattle.script_grammar.proofs.reader.Reader.take_front.Goals as goal

pub returns : goal.returns
returns c =
    let room = rw (← c.self.view_is) at c.requires.room in
    rw (← c.self.view_is)
    (may_read c.take.result c.args.bytes.now c.args.at c.self.inside.decls c.self.inside.rounds.joined c.take.new.self.joined c.self.inside.rounds.rest c.take.new.self.rest room c.take.ensures.line c.take.ensures.joined)
