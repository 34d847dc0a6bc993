use Rattle.std.proofs.Common.{sym}
use Rattle.std.proofs.lemmas.Result.{on_ok_weaker}
use Rattle.snapshot_store.specs.Content.{words_of}
use Rattle.snapshot_store.specs.ReadLaws.{deepest_is}
use Rattle.recovery_core.proofs.GatherRootLaws.{array_level, array_root, array_root_breaks, tree_root, tree_root_breaks}
use Rattle.recovery_core.proofs.gather.gather_root.Goals as goal

pub gather_array-requires-clause-level : goal.gather_array-requires-clause-level
gather_array-requires-clause-level c =
    (array_level c.args.stored.now c.in-Array.id c.in-Array.size c.root_place-place.result c.in-Array.is
    c.root_place-place.ensures.is).0

pub gather_array-requires-clause-bounded : goal.gather_array-requires-clause-bounded
gather_array-requires-clause-bounded c =
    (array_level c.args.stored.now c.in-Array.id c.in-Array.size c.root_place-place.result c.in-Array.is
    c.root_place-place.ensures.is).1

pub returns-in-Array-clause-gathered : goal.returns-in-Array-clause-gathered
returns-in-Array-clause-gathered c =
    on_ok_weaker c.gather_array.result
    (array_root (words_of c.args.store.now.pages) c.args.epoch c.args.stored.now 32 c.in-Array.id c.in-Array.size
    c.root_place-place.result c.args.state.now c.gather_array.new.state
    (sym deepest_is) c.in-Array.is c.root_place-place.ensures.is)
    c.gather_array.ensures.gathered

pub returns-in-Array-clause-breaks : goal.returns-in-Array-clause-breaks
returns-in-Array-clause-breaks c at e =
    array_root_breaks (words_of c.args.store.now.pages) c.args.epoch c.args.stored.now 32 c.in-Array.id
    c.in-Array.size c.root_place-place.result at
    (sym deepest_is) c.in-Array.is c.root_place-place.ensures.is (c.gather_array.ensures.breaks at e)

pub returns-in-Tree-clause-gathered : goal.returns-in-Tree-clause-gathered
returns-in-Tree-clause-gathered c =
    on_ok_weaker c.gather_tree.result
    (tree_root (words_of c.args.store.now.pages) c.args.epoch c.args.stored.now 32 c.in-Tree.id
    c.root_place-place.result c.args.state.now c.gather_tree.new.state
    (sym deepest_is) c.in-Tree.is c.root_place-place.ensures.is)
    c.gather_tree.ensures.gathered

pub returns-in-Tree-clause-breaks : goal.returns-in-Tree-clause-breaks
returns-in-Tree-clause-breaks c at e =
    tree_root_breaks (words_of c.args.store.now.pages) c.args.epoch c.args.stored.now 32 c.in-Tree.id
    c.root_place-place.result at
    (sym deepest_is) c.in-Tree.is c.root_place-place.ensures.is (c.gather_tree.ensures.breaks at e)
