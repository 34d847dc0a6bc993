-- The keys, the page and the word.
use Rattle.pointer_swings.proofs.children.descend_tree.Given as goal

abbrev pub ghosts-descend_tree_as : goal.ghosts-descend_tree_as
ghosts-descend_tree_as a = record { span = a.span; page = a.page; index = a.index }
