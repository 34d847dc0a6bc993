use Rattle.engine_pages.specs.Passes.{view}
use Rattle.page_drops.proofs.LeafTurns.{held_in, none_in}
use Rattle.tree_drops.proofs.Asks.{can_work}
use Rattle.tree_drops.proofs.Opens.{err_ended, visited_above, visited_none}
use Rattle.tree_drops.proofs.visits.open.Goals as goal

pub open_page-requires-clause-work : goal.open_page-requires-clause-work
open_page-requires-clause-work c =
    can_work c.args.target.place c.args.target.span c.args.target.at c.args.target.page c.args.target.epoch c.in-Ok-Some.held
    (view c.args.pass.now) (view c.hold.new.pass) c.requires.visit
    (held_in c.args.target.span c.args.target.at c.args.target.page c.in-Ok-Some.field-0 c.in-Ok-Some.held (view c.args.pass.now)
    (view c.hold.new.pass) (cc) c.in-Ok-Some.ensures.holds) c.hold.ensures.inners

pub returns-in-Err-clause-visits : goal.returns-in-Err-clause-visits
returns-in-Err-clause-visits c =
    visited_above c.args.target.place c.args.target.span c.args.target.at c.args.target.page c.args.target.epoch c.args.before
    c.and_kept.result c.in-Err.kept (view c.args.pass.now) (view c.hold.new.pass) c.requires.visit c.in-Err.ensures.keeps
    c.hold.ensures.inners c.and_kept.ensures.counts

pub returns-in-Ok-None-clause-visits : goal.returns-in-Ok-None-clause-visits
returns-in-Ok-None-clause-visits c =
    visited_none c.args.target.place c.args.target.span c.args.target.at c.args.target.page c.args.target.epoch c.args.before
    (view c.args.pass.now) (view c.hold.new.pass) c.requires.visit c.requires.few
    (none_in c.args.target.span c.args.target.at c.args.target.page c.in-Ok-None.field-0 (view c.args.pass.now)
    (view c.hold.new.pass) (cc) c.in-Ok-None.ensures.holds) c.hold.ensures.inners

pub returns-in-Ok-Some-clause-visits : goal.returns-in-Ok-Some-clause-visits
returns-in-Ok-Some-clause-visits c =
    err_ended c.args.target.place c.args.target.span c.args.target.at c.args.target.page c.args.target.epoch c.in-Ok-Some.held
    c.args.before c.open_page.result (view c.args.pass.now) (view c.hold.new.pass) (view c.open_page.new.pass) c.requires.visit
    (held_in c.args.target.span c.args.target.at c.args.target.page c.in-Ok-Some.field-0 c.in-Ok-Some.held (view c.args.pass.now)
    (view c.hold.new.pass) (cc) c.in-Ok-Some.ensures.holds) c.hold.ensures.inners c.open_page.ensures.ends
