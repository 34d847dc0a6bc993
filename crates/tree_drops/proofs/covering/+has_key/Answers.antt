use Rattle.std.proofs.Common.{◌+◌, ◌*◌, suc, length, subst, arith}
use Rattle.engine_pages.specs.Passes.{view}
use Rattle.tree_drops.specs.ChainKeys.{HasSearched}
use Rattle.tree_drops.proofs.BelowKeys.{can_search, found_back, found_next, found_page, glanced_heads, take_glanced}
use Rattle.tree_drops.proofs.covering.+has_key.Goals as goal

pub page_has-requires-clause-search : goal.page_has-requires-clause-search
page_has-requires-clause-search t c =
    can_search c.args.root c.args.halves.now c.args.headers.now (view c.args.pass.now) c.requires.take c.args.index c.page_of-page.result
    c.page_of-page.ensures.page

pub returns-then-page_has-clause-finds : goal.returns-then-page_has-clause-finds
returns-then-page_has-clause-finds t c =
    let v = view c.args.pass.now in
    found_page c.args.root c.args.halves.now c.args.headers.now v c.requires.take c.args.index c.page_of-page.result
    c.page_of-page.ensures.page (let most = c.if-index-halves.false in omega (arith, most)) c.args.key
    (subst (λ b. HasSearched c.page_of-page.result c.args.key b v) c.if-page_has.true c.page_has.ensures.finds)

pub has_key-requires : goal.has_key-requires
has_key-requires t c =
    let most = c.if-index-halves.false in (
      omega (arith, most),
      (
        c.page_has.ensures.of,
        take_glanced c.args.root c.args.halves.now c.args.headers.now (17 * suc (length c.args.halves.now)) (view c.args.pass.now)
            (view c.page_has.new.pass) c.page_has.ensures.glances c.requires.take,
      ),
    )

pub returns-clause-finds : goal.returns-clause-finds
returns-clause-finds t c =
    let v = view c.args.pass.now in
    let a = view c.page_has.new.pass in
    found_next c.args.root c.args.halves.now c.args.headers.now v c.requires.take c.args.index c.page_of-page.result
    c.page_of-page.ensures.page (let most = c.if-index-halves.false in omega (arith, most)) c.args.key c.has_key.result
    (subst (λ b. HasSearched c.page_of-page.result c.args.key b v) c.if-page_has.false c.page_has.ensures.finds)
    (found_back c.args.root c.args.halves.now c.args.headers.now (c.args.index + 1) c.args.key c.has_key.result v a
    (glanced_heads v a c.page_has.ensures.glances) c.has_key.ensures.finds)
