-- The page, and which word of it.
use Rattle.tree_heads.proofs.loading.load_word.Given as goal

abbrev pub ghosts-load_word_as : goal.ghosts-load_word_as
ghosts-load_word_as a = record { slot = a.slot; index = a.index }
