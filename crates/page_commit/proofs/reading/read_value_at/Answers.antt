use Rattle.std.proofs.Common.{sym, ◌∙◌}
use Rattle.engine_pages.specs.Passes.{view}
use Rattle.page_commit.proofs.FoundLaws.{not_read, value_again}
use Rattle.page_commit.proofs.reading.read_value_at.Goals as goal

pub read_held-requires-clause-unread : goal.read_held-requires-clause-unread
read_held-requires-clause-unread c =
    not_read c.args.key c.args.sets.now.reads (sym c.find.ensures ∙ c.in_default.is)

pub returns-clause-value : goal.returns-clause-value
returns-clause-value c =
    value_again c.args.sets.now (view c.args.pass.now) c.args.key c.in-Some.entry c.requires.live
    (sym c.find.ensures ∙ c.in-Some.is)
