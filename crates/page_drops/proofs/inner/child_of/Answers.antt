use Rattle.std.proofs.Common.{arith}
use Rattle.engine_pages.specs.Passes.{view}
use Rattle.page_drops.proofs.Inners.{can_descend, child_then, no_child}
use Rattle.page_drops.proofs.Notes.{keeper_active}
use Rattle.page_drops.proofs.inner.child_of.Goals as goal

pub returns-then-page-eq0-clause-child : goal.returns-then-page-eq0-clause-child
returns-then-page-eq0-clause-child c =
    no_child c.args.page.span c.args.page.page c.args.index (view c.args.pass.now) c.if-page-eq0.true

pub descend-requires-clause-pass : goal.descend-requires-clause-pass
descend-requires-clause-pass c = keeper_active (view c.args.pass.now).role c.requires.at.keeper

pub descend-requires-clause-descend : goal.descend-requires-clause-descend
descend-requires-clause-descend c =
    can_descend c.args.page.slot c.args.page.page c.args.index c.args.page.span (view c.args.pass.now) c.requires.at
    (let some = c.if-page-eq0.false in omega (arith, some)) c.requires.index

pub returns-clause-child : goal.returns-clause-child
returns-clause-child c =
    child_then c.args.page.span c.args.page.page c.args.index c.descend.result (view c.args.pass.now) (view c.descend.new.pass)
    c.requires.at.there c.descend.ensures.descends
