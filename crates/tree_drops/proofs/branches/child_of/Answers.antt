use Rattle.engine_pages.specs.Passes.{view}
use Rattle.tree_drops.proofs.Parts.{can_descend, child_found}
use Rattle.tree_drops.proofs.branches.child_of.Goals as goal

pub descend_tree-requires-clause-descend : goal.descend_tree-requires-clause-descend
descend_tree-requires-clause-descend c =
    can_descend c.args.branch.slot c.args.branch.page c.args.branch.count c.args.index c.args.branch.span (view c.args.pass.now) c.requires.at c.requires.inner c.requires.index

pub returns-clause-child : goal.returns-clause-child
returns-clause-child c =
    λ x alike.
    child_found c.args.branch.slot c.args.branch.page c.args.branch.count c.args.index c.descend_tree.result c.args.branch.span (view c.args.pass.now) (view c.descend_tree.new.pass) x
    c.requires.inner alike c.requires.index c.descend_tree.ensures.descends
