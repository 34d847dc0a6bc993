-- The keys, the page and the word.
use Rattle.pointer_swings.proofs.children.descend.Given as goal

abbrev pub ghosts-descend_as : goal.ghosts-descend_as
ghosts-descend_as a = record { span = a.span; page = a.page; index = a.index }
