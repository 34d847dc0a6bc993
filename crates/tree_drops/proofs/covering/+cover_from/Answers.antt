use Rattle.std.specs.Prelude.{Err}
use Rattle.std.proofs.Common.{◌≡◌, ◌∙◌, arith}
use Rattle.std.proofs.lemmas.Result.{err_from_is_err_and}
use Rattle.engine_pages.specs.Passes.{view}
use Rattle.tree_drops.proofs.BelowCovers.{cover_on, from_below, from_more, inner_later}
use Rattle.tree_drops.proofs.Chaining.{chained_then}
use Rattle.tree_drops.proofs.Covers.{index_less}
use Rattle.tree_drops.proofs.covering.+cover_from.Goals as goal

pub returns-in_err-cover_from-clause-covers : goal.returns-in_err-cover_from-clause-covers
returns-in_err-cover_from-clause-covers t c =
    let p = err_from_is_err_and c.from_residual-in_err-cover_from.result c.from_residual-in_err-cover_from.ensures.1 in
    let told : c.from_residual-in_err-cover_from.result ≡ Err c.in_err-cover_from.field-0.0 = let a = p.1 in let b = p.2 in cc in
    rw told
    (from_below c.args.root c.args.halves.now c.args.headers.now c.args.page c.in_ok-child.child c.args.index
    c.in_err-cover_from.field-0.0 (view c.args.pass.now) (view c.open_child.new.pass) (view c.cover_from.new.pass)
    c.in_ok-child.ensures.opens c.in_err-cover_from.ensures.covers)

pub cover_from-requires-2 : goal.cover_from-requires-2
cover_from-requires-2 t c =
    let v = view c.args.pass.now in
    let u = view c.open_child.new.pass in
    let z = view c.cover_from.new.pass in
    let opened = c.in_ok-child.ensures.opens in
    let below = c.in_ok-cover_from.ensures.covers in
    let only = chained_then v u z opened.only below.0 in
    let less = index_less c.args.index c.args.page.count c.requires.within c.if-index-page.false in (
      omega (arith, less),
      (
        c.cover_from.ensures.of,
        (
          cover_on c.args.root c.args.halves.now c.args.headers.now c.args.page.span c.args.page.page v z only (below.2 ∙ opened.reads)
              c.requires.cover,
          (inner_later c.args.page.page c.args.page.count v z only c.requires.inner, omega (arith, less)),
        ),
      ),
    )

pub returns-clause-covers : goal.returns-clause-covers
returns-clause-covers t c =
    from_more c.args.root c.args.halves.now c.args.headers.now c.args.page c.in_ok-child.child c.args.index c.cover_from-2.result
    (view c.args.pass.now) (view c.open_child.new.pass) (view c.cover_from.new.pass) (view c.cover_from-2.new.pass)
    c.in_ok-child.ensures.opens c.in_ok-cover_from.ensures.covers c.cover_from-2.ensures.covers
