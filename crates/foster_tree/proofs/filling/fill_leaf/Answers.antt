use Rattle.std.proofs.Common.{◌*◌, length}
use Rattle.engine_pages.specs.Passes.{view}
use Rattle.foster_tree.specs.Filling.{with_head, with_records}
use Rattle.foster_tree.proofs.FillLaws.{fills_then}
use Rattle.foster_tree.proofs.WordLaws.{long_head}
use Rattle.foster_tree.proofs.filling.fill_leaf.Goals as goal

pub returns-clause-fills : goal.returns-clause-fills
returns-clause-fills c =
    fills_then c.args.slot 3 (3 * length c.args.entries.now) (with_head c.args.span (length c.args.entries.now))
    (λ words. with_records words c.args.entries.now (length c.args.entries.now))
    (view c.args.pass.now) (view c.fill_head.new.pass) (view c.fill_records.new.pass)
    (λ words long. long_head c.args.span (length c.args.entries.now) words long)
    c.fill_head.ensures.fills c.fill_records.ensures.fills
