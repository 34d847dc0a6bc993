use Rattle.engine_pages.specs.Passes.{view}
use Rattle.tree_drops.proofs.BelowCovers.{cover_on, covered_all}
use Rattle.tree_drops.proofs.covering.cover.Goals as goal

pub cover_from-requires-clause-cover : goal.cover_from-requires-clause-cover
cover_from-requires-clause-cover c =
    let x = c.in-Ok.ensures.covers in
    cover_on c.args.root c.args.halves.now c.args.headers.now c.args.span c.args.page (view c.args.pass.now) (view c.cover_page.new.pass)
    x.0 x.2 c.requires.cover

pub returns-in-Err-clause-covers : goal.returns-in-Err-clause-covers
returns-in-Err-clause-covers c = c.in-Err.ensures.covers

pub returns-in-Ok-clause-covers : goal.returns-in-Ok-clause-covers
returns-in-Ok-clause-covers c =
    covered_all c.args.root c.args.halves.now c.args.headers.now c.args.span c.args.page c.in-Ok.count c.cover_from.result
    (view c.args.pass.now) (view c.cover_page.new.pass) (view c.cover_from.new.pass) c.in-Ok.ensures.covers c.cover_from.ensures.covers
