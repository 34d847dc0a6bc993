use Rattle.std.proofs.Common.{ℕ, sym, subst}
use Rattle.tree_walks.specs.Steps.{IsTreeRoot}
use Rattle.tree_walks.proofs.DeclLaws.{tree_first}
use Rattle.tree_walks.proofs.places.root_of.Goals as goal

pub returns : goal.returns
returns c =
    subst (λ (r : ℕ). IsTreeRoot c.args.engine.now.table.shared.key.decls c.args.storage r) (sym c.index_of.ensures)
    (tree_first c.args.engine.now.table.shared.key.decls c.args.storage c.requires)
