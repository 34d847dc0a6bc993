use Rattle.std.proofs.Common.{ℕ, sym, subst}
use Rattle.array_pages.specs.Spans.{IsArrayAt}
use Rattle.array_pages.proofs.DeclLaws.{index_within, no_tree_found, size_found}
use Rattle.array_pages.proofs.storages.array_of.Goals as goal

pub array_size-requires : goal.array_size-requires
array_size-requires c =
    index_within c.args.engine.now.table.shared.key.decls c.args.storage c.index_of-root.result c.requires
    c.index_of-root.ensures

pub returns-in-Some : goal.returns-in-Some
returns-in-Some c =
    subst (λ (n : ℕ). IsArrayAt c.args.engine.now.table.shared.key.decls c.args.storage c.index_of-root.result n)
    (sym c.from.ensures)
    (size_found c.args.engine.now.table.shared.key.decls c.args.storage c.index_of-root.result c.in-Some.size c.requires
    c.index_of-root.ensures c.in-Some.ensures)

pub returns-in-None : goal.returns-in-None
returns-in-None c =
    absurd (no_tree_found c.args.engine.now.table.shared.key.decls c.args.storage c.index_of-root.result c.requires
    c.index_of-root.ensures c.in-None.ensures)
