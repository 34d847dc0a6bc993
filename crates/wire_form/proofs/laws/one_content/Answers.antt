use Rattle.wire_form.specs.ContentLaws.{one_array_leaf, one_array_inner, one_tree_leaf, one_tree_inner, one_catalogue}
use Rattle.wire_form.proofs.laws.one_content.Goals as goal

pub returns-clause-array_leaf : goal.returns-clause-array_leaf
returns-clause-array_leaf c = one_array_leaf

pub returns-clause-array_inner : goal.returns-clause-array_inner
returns-clause-array_inner c = one_array_inner

pub returns-clause-tree_leaf : goal.returns-clause-tree_leaf
returns-clause-tree_leaf c = one_tree_leaf

pub returns-clause-tree_inner : goal.returns-clause-tree_inner
returns-clause-tree_inner c = one_tree_inner

pub returns-clause-catalogue : goal.returns-clause-catalogue
returns-clause-catalogue c = one_catalogue
