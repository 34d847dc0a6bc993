use Rattle.std.proofs.Common.{arith, get_or, refl}
use Rattle.snapshot_store.specs.Places.{page as page_words}
use Rattle.engine_pages.specs.Passes.{view}
use Rattle.tree_drops.proofs.BelowCovers.{kept_first, leaf_count, page_leaf}
use Rattle.tree_drops.proofs.BelowLaws.{crowded_leaf}
use Rattle.tree_drops.proofs.Chaining.{chained_self}
use Rattle.tree_drops.proofs.covering.cover_leaf.Goals as goal

pub returns-then-leaf-gt-RECORDS-clause-covers : goal.returns-then-leaf-gt-RECORDS-clause-covers
returns-then-leaf-gt-RECORDS-clause-covers c =
    let v = view c.args.pass.now in
    let is = c.requires.count in
    let many = c.if-leaf-gt-RECORDS.true in
    kept_first c.args.root c.args.leaf.span c.args.leaf.page c.keep_first-odd.result v v
    (view c.keep_first-odd.new.pass) (chained_self v) refl
    (crowded_leaf v.pages c.args.leaf.page (get_or (page_words v.pages c.args.leaf.page) 0 0)
    (λ none. let some = c.requires.some in omega (arith, some, none)) c.requires.cover.below.there refl c.requires.kind
    (omega (arith, is, many)))
    c.keep_first-odd.ensures.keeps c.keep_first-odd.ensures.reads

pub returns-in-Ok-clause-covers : goal.returns-in-Ok-clause-covers
returns-in-Ok-clause-covers c =
    page_leaf c.args.root c.args.halves.now c.args.headers.now c.args.leaf (view c.args.pass.now) (view c.cover_rest.new.pass)
    (leaf_count (view c.args.pass.now).pages c.args.leaf.span c.args.leaf.page c.args.leaf.count c.requires.some c.requires.kind
    c.requires.count (let few = c.if-leaf-gt-RECORDS.false in omega (arith, few)))
    c.in-Ok.ensures.covers
