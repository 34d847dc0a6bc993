-- The page, and its keys.
use Rattle.tree_heads.proofs.loading.load_header.Given as goal

abbrev pub ghosts-load_header_as : goal.ghosts-load_header_as
ghosts-load_header_as a = record { slot = a.slot; span = a.span }
