use Rattle.std.proofs.Common.{refl}
use Rattle.engine_pages.specs.Passes.{view}
use Rattle.tree_drops.proofs.Asks.{close_opened, close_work, go_inside}
use Rattle.tree_drops.proofs.Rows.{gone_as, inner_as, visited_branch}
use Rattle.tree_drops.proofs.visits.visit.Goals as goal

pub visit_from-below-requires-clause-can : goal.visit_from-below-requires-clause-can
visit_from-below-requires-clause-can c =
    inner_as c.branch_of-inner.result c.in-Ok.opened.slot c.in-Ok.opened.count c.args.target.page c.args.target.epoch
    c.args.target.span (view c.open.new.pass) c.branch_of-inner.ensures
    (go_inside c.args.target.place c.args.target.span c.args.target.at c.args.target.page c.args.target.epoch c.in-Ok.opened
    (view c.args.pass.now) (view c.open.new.pass) c.requires.visit c.in-Ok.ensures.opens)

pub close-requires-clause-work : goal.close-requires-clause-work
close-requires-clause-work c =
    let gone = gone_as c.branch_of-inner.result c.in-Ok.opened.slot c.in-Ok.opened.count c.args.target.page c.args.target.epoch
    c.args.target.epoch c.args.target.span c.args.before c.visit_from-below.result (view c.open.new.pass)
    (view c.visit_from-below.new.pass) c.branch_of-inner.ensures refl c.visit_from-below.ensures.goes in
    close_work c.args.target.place c.args.target.span c.args.target.at c.args.target.page c.args.target.epoch c.in-Ok.opened
    (view c.args.pass.now) (view c.open.new.pass) c.requires.visit c.in-Ok.ensures.opens gone.met
    (view c.visit_from-below.new.pass) gone.row

pub close-requires-clause-opened : goal.close-requires-clause-opened
close-requires-clause-opened c =
    let gone = gone_as c.branch_of-inner.result c.in-Ok.opened.slot c.in-Ok.opened.count c.args.target.page c.args.target.epoch
    c.args.target.epoch c.args.target.span c.args.before c.visit_from-below.result (view c.open.new.pass)
    (view c.visit_from-below.new.pass) c.branch_of-inner.ensures refl c.visit_from-below.ensures.goes in
    close_opened c.args.target.place c.args.target.span c.args.target.at c.args.target.page c.args.target.epoch c.in-Ok.opened
    (view c.args.pass.now) (view c.open.new.pass) c.requires.visit c.in-Ok.ensures.opens gone.met
    (view c.visit_from-below.new.pass) gone.row

pub returns-in-Ok-clause-visits : goal.returns-in-Ok-clause-visits
returns-in-Ok-clause-visits c =
    let gone = gone_as c.branch_of-inner.result c.in-Ok.opened.slot c.in-Ok.opened.count c.args.target.page c.args.target.epoch
    c.args.target.epoch c.args.target.span c.args.before c.visit_from-below.result (view c.open.new.pass)
    (view c.visit_from-below.new.pass) c.branch_of-inner.ensures refl c.visit_from-below.ensures.goes in
    visited_branch c.args.target.place c.args.target.span c.args.target.at c.args.target.page c.args.target.epoch c.in-Ok.opened
    c.args.before c.visit_from-below.result c.close.result (view c.args.pass.now) (view c.open.new.pass)
    (view c.visit_from-below.new.pass) (view c.close.new.pass) c.requires.visit c.in-Ok.ensures.opens gone
    c.close.ensures.closes
