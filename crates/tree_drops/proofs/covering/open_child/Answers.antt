use Rattle.std.specs.Prelude.{Err, Ok}
use Rattle.engine_pages.specs.Passes.{view}
use Rattle.tree_drops.proofs.BelowCovers.{can_cover_child, can_descend_inner, cover_on, inner_on, kept_child, opened_child, opened_earlier}
use Rattle.tree_drops.proofs.BelowKeys.{glanced_reads}
use Rattle.tree_drops.proofs.BelowLaws.{keys_on}
use Rattle.tree_drops.proofs.Chaining.{chained_glanced}
use Rattle.tree_drops.proofs.covering.open_child.Goals as goal

pub descend_tree-child-requires-clause-descend : goal.descend_tree-child-requires-clause-descend
descend_tree-child-requires-clause-descend c =
    let v = view c.args.pass.now in
    let a = view c.keys_below-span.new.pass in
    let h = c.keys_below-span.ensures.glances in
    can_descend_inner c.args.page.span c.args.page.page c.args.page.count c.args.index v a (chained_glanced v a h) c.requires.cover.below
    c.requires.inner c.requires.index

pub cover_page-requires-clause-cover : goal.cover_page-requires-clause-cover
cover_page-requires-clause-cover c =
    let v = view c.args.pass.now in
    let a = view c.keys_below-span.new.pass in
    let h = c.keys_below-span.ensures.glances in
    can_cover_child c.args.root c.args.halves.now c.args.headers.now c.args.page c.args.index c.descend_tree-child.result
    c.keys_below-span.result a (view c.descend_tree-child.new.pass)
    (cover_on c.args.root c.args.halves.now c.args.headers.now c.args.page.span c.args.page.page v a (chained_glanced v a h)
    (glanced_reads v a h) c.requires.cover)
    (keys_on c.args.page.page c.args.index c.args.page.span c.keys_below-span.result v a h c.keys_below-span.ensures.keys)
    c.descend_tree-child.ensures.descends

pub returns-in-Err-clause-opens : goal.returns-in-Err-clause-opens
returns-in-Err-clause-opens c =
    let v = view c.args.pass.now in
    let a = view c.keys_below-span.new.pass in
    let h = c.keys_below-span.ensures.glances in
    opened_earlier c.args.root c.args.halves.now c.args.headers.now c.args.page c.args.index (Err c.in-Err.kept) v a (view c.cover_page.new.pass)
    (chained_glanced v a h) (glanced_reads v a h)
    (kept_child c.args.root c.args.halves.now c.args.headers.now c.args.page c.args.index c.descend_tree-child.result
    c.keys_below-span.result a (view c.descend_tree-child.new.pass)
    (cover_on c.args.root c.args.halves.now c.args.headers.now c.args.page.span c.args.page.page v a (chained_glanced v a h)
    (glanced_reads v a h) c.requires.cover)
    (keys_on c.args.page.page c.args.index c.args.page.span c.keys_below-span.result v a h c.keys_below-span.ensures.keys)
    c.descend_tree-child.ensures.descends c.in-Err.kept (view c.cover_page.new.pass) c.in-Err.ensures.covers)

pub returns-in-Ok-clause-opens : goal.returns-in-Ok-clause-opens
returns-in-Ok-clause-opens c =
    let v = view c.args.pass.now in
    let a = view c.keys_below-span.new.pass in
    let h = c.keys_below-span.ensures.glances in
    opened_earlier c.args.root c.args.halves.now c.args.headers.now c.args.page c.args.index
    (Ok (record { span = c.keys_below-span.result; page = c.descend_tree-child.result; count = c.in-Ok.count })) v a (view c.cover_page.new.pass)
    (chained_glanced v a h) (glanced_reads v a h)
    (opened_child c.args.root c.args.halves.now c.args.headers.now c.args.page c.args.index c.descend_tree-child.result
    c.keys_below-span.result a (view c.descend_tree-child.new.pass)
    (cover_on c.args.root c.args.halves.now c.args.headers.now c.args.page.span c.args.page.page v a (chained_glanced v a h)
    (glanced_reads v a h) c.requires.cover)
    (keys_on c.args.page.page c.args.index c.args.page.span c.keys_below-span.result v a h c.keys_below-span.ensures.keys)
    c.descend_tree-child.ensures.descends c.in-Ok.count (view c.cover_page.new.pass)
    (inner_on c.args.page.page c.args.page.count v a (chained_glanced v a h) c.requires.inner) c.in-Ok.ensures.covers)
