-- The page, its keys, and the key that is added.
use Rattle.tree_heads.proofs.locking.open_with_key.Given as goal

abbrev pub ghosts-open_with_key_as-J-Treed : goal.ghosts-open_with_key_as-J-Treed
ghosts-open_with_key_as-J-Treed a = record { slot = a.slot; span = a.span }

abbrev pub ghosts-open_with_key_as-K-Keyed : goal.ghosts-open_with_key_as-K-Keyed
ghosts-open_with_key_as-K-Keyed a = record { key = a.key }
