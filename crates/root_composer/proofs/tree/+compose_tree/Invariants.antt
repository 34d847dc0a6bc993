use Rattle.std.proofs.Common.{◌-◌}
use Rattle.snapshot_store.specs.Content.{words_of}
use Rattle.snapshot_store.specs.Places.{places_below}
use Rattle.snapshot_store.specs.TreePages.{tree_format}
use Rattle.root_composer.proofs.TreePlaces.{ComposesKids}
use Rattle.root_composer.proofs.tree.+compose_tree.Given as goal

abbrev pub decreases-compose_tree : goal.decreases-compose_tree
decreases-compose_tree l = l.depth

-- the children below i are composed
abbrev pub invariant-loop-i : goal.invariant-loop-i
invariant-loop-i l = ComposesKids l.run (words_of l.store.pages) (l.depth - 1) (places_below tree_format (words_of l.store.pages) l.fn.p) l.fn.made.items l.i l.numbers.items l.made.items
