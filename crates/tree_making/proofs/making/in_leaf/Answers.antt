use Rattle.std.proofs.Common.{ℕ, ◌+◌, ◌*◌, ◌<◌, Option, sym, ap, ◌∙◌, subst}
use Rattle.engine_pages.specs.declared.layout.Layout.{Layout}
use Rattle.engine_pages.specs.Layout.{page_at}
use Rattle.engine_pages.specs.Passes.{view}
use Rattle.tree_walks.specs.Leaves.{IsSearched}
use Rattle.tree_making.proofs.LeafLaws.{found_below, found_made, lacking_made}
use Rattle.tree_making.proofs.making.in_leaf.Goals as goal

pub search-requires-clause-leaf : goal.search-requires-clause-leaf
search-requires-clause-leaf c = c.requires.leaf.1.leaf

pub record_word-requires-clause-slot : goal.record_word-requires-clause-slot
record_word-requires-clause-slot c =
    subst (λ (l : Layout). c.args.leaf.slot < l.slots) c.requires.of.layout c.requires.leaf.1.leaf.on.there

pub record_word-requires-clause-index : goal.record_word-requires-clause-index
record_word-requires-clause-index c =
    let l = c.requires.leaf.1 in
    found_below c.args.key c.requires.leaf.0 c.args.leaf c.in-Some.index (view c.args.pass.now) l
    (subst (λ (o : Option ℕ). IsSearched l.leaf.keys c.args.key o) c.in-Some.is (c.search.ensures.searched l.leaf))

pub returns-in-Some-clause-made : goal.returns-in-Some-clause-made
returns-in-Some-clause-made c headers l =
    found_made c.args.key headers c.args.leaf c.in-Some.index c.record_word.result (view c.args.pass.now)
    (view c.search.new.pass) c.search.ensures.glances l
    (subst (λ (o : Option ℕ). IsSearched l.leaf.keys c.args.key o) c.in-Some.is (c.search.ensures.searched l.leaf))
    (c.record_word.ensures
    ∙ ap (λ (y : Layout). page_at y.slots c.args.leaf.slot ((16 + 3 * c.in-Some.index) + 1)) (sym c.requires.of.layout))

pub returns-in-None-clause-made : goal.returns-in-None-clause-made
returns-in-None-clause-made c headers l =
    lacking_made c.args.key headers c.args.leaf (view c.args.pass.now) (view c.search.new.pass)
    c.search.ensures.glances l
    (subst (λ (o : Option ℕ). IsSearched l.leaf.keys c.args.key o) c.in-None.is (c.search.ensures.searched l.leaf))
