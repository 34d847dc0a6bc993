use Rattle.std.proofs.Common.{sym, ◌∙◌}
use Rattle.engine_pages.specs.Passes.{view}
use Rattle.page_commit.proofs.FoundLaws.{not_read}
use Rattle.tree_ranges.proofs.ReadInLaws.{read_again}
use Rattle.tree_ranges.proofs.records.value_in.Goals as goal

pub read_in-requires-clause-unread : goal.read_in-requires-clause-unread
read_in-requires-clause-unread c = not_read c.args.key c.args.sets.now.reads (sym c.find.ensures ∙ c.in_default.is)

pub read_in-requires-clause-met : goal.read_in-requires-clause-met
read_in-requires-clause-met c = c.requires.met

pub returns-clause-reads : goal.returns-clause-reads
returns-clause-reads c =
    read_again c.args.sets.now (view c.args.pass.now) c.args.key c.args.leaf c.in-Some.entry c.told.result
    c.requires.live
    c.requires.leaf.0 (sym c.find.ensures ∙ c.in-Some.is) c.told.ensures
