use Rattle.std.proofs.Common.{sym, ◌∙◌}
use Rattle.engine_pages.specs.Passes.{view}
use Rattle.page_commit.proofs.Handing.{answer_for, read_for}
use Rattle.page_commit.proofs.TurnLaws.{own_read, own_value}
use Rattle.page_commit.proofs.WriteLaws.{none_written}
use Rattle.page_commit.proofs.reading.value_of.Goals as goal

pub read_value-requires-clause-unwritten : goal.read_value-requires-clause-unwritten
read_value-requires-clause-unwritten c =
    none_written c.args.key c.args.sets.now.writes (sym c.find.ensures ∙ c.in_default.is)

pub returns-in_default-clause-replies : goal.returns-in_default-clause-replies
returns-in_default-clause-replies c =
    read_for c.read_value.result c.args.sets.now c.read_value.new.sets (view c.args.pass.now) (view c.read_value.new.pass)
    c.args.key c.requires.live c.requires.fits
    (none_written c.args.key c.args.sets.now.writes (sym c.find.ensures ∙ c.in_default.is)) c.read_value.ensures.value

pub returns-in_default-clause-value : goal.returns-in_default-clause-value
returns-in_default-clause-value c =
    answer_for c.read_value.result c.args.sets.now c.read_value.new.sets (view c.args.pass.now) (view c.read_value.new.pass)
    c.args.key (none_written c.args.key c.args.sets.now.writes (sym c.find.ensures ∙ c.in_default.is))
    c.read_value.ensures.value

pub returns-clause-replies : goal.returns-clause-replies
returns-clause-replies c =
    rw c.unwrap_or.ensures (own_read c.args.sets.now (view c.args.pass.now) c.args.key c.in-Some.own c.requires.live
    c.requires.fits
    (sym c.find.ensures ∙ c.in-Some.is))

pub returns-clause-value : goal.returns-clause-value
returns-clause-value c =
    rw c.unwrap_or.ensures (own_value c.args.key c.in-Some.own c.args.sets.now (view c.args.pass.now)
    (sym c.find.ensures ∙ c.in-Some.is))
