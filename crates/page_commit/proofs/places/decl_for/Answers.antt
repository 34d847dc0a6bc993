use Rattle.std.proofs.Common.{sym}
use Rattle.array_pages.proofs.DeclLaws.{at_index}
use Rattle.page_commit.proofs.places.decl_for.Goals as goal

pub returns : goal.returns
returns c =
    rw (c.decl_at.ensures, c.decls.ensures, c.index_of.ensures)
    (sym (at_index c.args.engine.now.table.shared.key.decls c.args.storage))
