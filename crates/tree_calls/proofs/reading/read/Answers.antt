use Rattle.std.proofs.Common.{sym, ◌∙◌}
use Rattle.engine_pages.specs.Passes.{view}
use Rattle.page_commit.proofs.WriteLaws.{none_written}
use Rattle.tree_calls.proofs.AnswerLaws.{own_answer}
use Rattle.tree_calls.proofs.DoneLaws.{own_read, read_for}
use Rattle.tree_calls.proofs.reading.read.Goals as goal

pub read_value-requires-clause-unwritten : goal.read_value-requires-clause-unwritten
read_value-requires-clause-unwritten c =
    none_written c.args.key c.args.sets.now.writes (sym c.find.ensures ∙ c.in_default.is)

pub returns-in_default-clause-replies : goal.returns-in_default-clause-replies
returns-in_default-clause-replies c =
    read_for c.read_value.result c.args.sets.now c.read_value.new.sets (view c.args.pass.now) (view c.read_value.new.pass)
    c.args.key c.requires.tree (none_written c.args.key c.args.sets.now.writes (sym c.find.ensures ∙ c.in_default.is))
    c.read_value.ensures.value

pub returns-clause-replies : goal.returns-clause-replies
returns-clause-replies c =
    own_read c.args.sets.now (view c.args.pass.now) c.args.key c.in-Some.own c.requires.live c.requires.tree
    (sym c.find.ensures ∙ c.in-Some.is)

pub returns-clause-answer : goal.returns-clause-answer
returns-clause-answer c =
    own_answer c.args.sets.now c.args.key c.in-Some.own (view c.args.pass.now) (sym c.find.ensures ∙ c.in-Some.is)
