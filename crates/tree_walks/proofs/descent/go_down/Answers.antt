use Rattle.tree_walks.proofs.descent.go_down.Goals as goal

pub returns-clause-goes : goal.returns-clause-goes
returns-clause-goes c = c.walk_down.ensures.goes
