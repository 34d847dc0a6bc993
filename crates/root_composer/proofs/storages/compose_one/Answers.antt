use Rattle.std.proofs.Common.{List, sym, subst, ◌∙◌}
use Rattle.std.specs.List.Sorted.{IsNonDecreasingBy}
use Rattle.std.proofs.lemmas.Result.{IfOk-weaker}
use Rattle.snapshot_store.specs.Content.{words_of}
use Rattle.root_composer.specs.declared.last.Last.{Last}
use Rattle.root_composer.specs.Rows.{Rising}
use Rattle.root_composer.proofs.RunLemmas.{part_in_order, part_rises}
use Rattle.root_composer.proofs.StorageSteps.{array_stands, array_small, array_adds, array_keys, tree_stands, tree_adds, tree_deep, tree_keys, if_any}
use Rattle.root_composer.proofs.storages.compose_one.Goals as goal

pub compose_array-requires-clause-stands : goal.compose_array-requires-clause-stands
compose_array-requires-clause-stands c =
    array_stands c.args.run.now (words_of c.args.store.now.pages) c.args.stored.now c.in-Array.id c.in-Array.size c.from.result c.root_place-place.result
    c.in-Array.is c.requires.ready c.root_place-place.ensures.is c.from.ensures

pub compose_array-requires-clause-range : goal.compose_array-requires-clause-range
compose_array-requires-clause-range c =
    array_small c.args.stored.now c.in-Array.id c.in-Array.size c.root_place-place.result c.in-Array.is c.root_place-place.ensures.is

pub compose_array-requires-clause-order : goal.compose_array-requires-clause-order
compose_array-requires-clause-order c =
    subst (λ (l : List Last). IsNonDecreasingBy (λ (m : Last). m.key) l) (sym (c.deref.ensures.value ∙ c.in_ok-part-in-Array.ensures.part)) (part_in_order c.in-Array.id c.args.run.now c.requires.rising)

pub returns-in_ok-root-in-Array-clause-made : goal.returns-in_ok-root-in-Array-clause-made
returns-in_ok-root-in-Array-clause-made c =
    array_adds c.args.run.now (words_of c.args.store.now.pages) c.args.made.now.items c.compose_array.new.made.items c.args.stored.now c.in-Array.id c.in-Array.size c.root_place-place.result c.deref.result.now c.in_ok-root-in-Array.root
    c.in-Array.is (c.deref.ensures.value ∙ c.in_ok-part-in-Array.ensures.part) c.root_place-place.ensures.is c.in_ok-root-in-Array.ensures

pub returns-in_ok-root-in-Array-clause-within : goal.returns-in_ok-root-in-Array-clause-within
returns-in_ok-root-in-Array-clause-within c = array_keys c.args.run.now (words_of c.args.store.now.pages) c.args.stored.now c.in-Array.id c.in-Array.size c.in-Array.is c.requires.ready

pub compose_tree-requires-clause-stands : goal.compose_tree-requires-clause-stands
compose_tree-requires-clause-stands c =
    tree_stands c.args.run.now (words_of c.args.store.now.pages) c.args.stored.now c.in-Tree.id c.root_place-place.result c.in-Tree.is c.requires.ready c.root_place-place.ensures.is

pub compose_tree-requires-clause-order : goal.compose_tree-requires-clause-order
compose_tree-requires-clause-order c =
    subst (λ (l : List Last). IsNonDecreasingBy (λ (m : Last). m.key) l) (sym (c.as_slice.ensures.value ∙ c.in_ok-entries-in-Tree.ensures.part)) (part_in_order c.in-Tree.id c.args.run.now c.requires.rising)

pub compose_tree-requires-clause-rising : goal.compose_tree-requires-clause-rising
compose_tree-requires-clause-rising c =
    subst (Rising 0) (sym (c.as_slice.ensures.value ∙ c.in_ok-entries-in-Tree.ensures.part)) (part_rises c.in-Tree.id c.args.run.now c.requires.rising)

pub returns-in_ok-entries-in-Tree-clause-made : goal.returns-in_ok-entries-in-Tree-clause-made
returns-in_ok-entries-in-Tree-clause-made c =
    IfOk-weaker c.compose_tree.result _ _
    (λ n adds. tree_adds c.args.run.now (words_of c.args.store.now.pages) c.args.made.now.items c.compose_tree.new.made.items c.args.stored.now c.in-Tree.id c.root_place-place.result c.as_slice.result.now n
    c.in-Tree.is (c.as_slice.ensures.value ∙ c.in_ok-entries-in-Tree.ensures.part) c.root_place-place.ensures.is adds)
    c.compose_tree.ensures.made

pub returns-in_ok-entries-in-Tree-clause-within : goal.returns-in_ok-entries-in-Tree-clause-within
returns-in_ok-entries-in-Tree-clause-within c =
    if_any c.compose_tree.result (tree_keys c.args.run.now c.args.stored.now c.in-Tree.id c.in_ok-entries-in-Tree.entries.items c.in-Tree.is c.in_ok-entries-in-Tree.ensures.part c.in_ok-entries-in-Tree.ensures.keys)

pub returns-in_ok-entries-in-Tree-clause-deep : goal.returns-in_ok-entries-in-Tree-clause-deep
returns-in_ok-entries-in-Tree-clause-deep c fault e =
    tree_deep c.args.run.now (words_of c.args.store.now.pages) c.args.made.now.items c.args.stored.now c.in-Tree.id c.root_place-place.result c.as_slice.result.now fault
    c.in-Tree.is (c.as_slice.ensures.value ∙ c.in_ok-entries-in-Tree.ensures.part) c.root_place-place.ensures.is (c.compose_tree.ensures.deep fault e)
