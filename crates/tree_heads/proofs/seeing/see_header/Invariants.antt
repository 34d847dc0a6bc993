-- The page, its keys, and the word.
use Rattle.tree_heads.proofs.seeing.see_header.Given as goal

abbrev pub ghosts-see_header_as-J-Treed : goal.ghosts-see_header_as-J-Treed
ghosts-see_header_as-J-Treed a = record { slot = a.slot; span = a.span }

abbrev pub ghosts-see_header_as-K-Expected : goal.ghosts-see_header_as-K-Expected
ghosts-see_header_as-K-Expected a = record { word = a.expected }
