use Rattle.std.proofs.Common.{refl, ◌+◌, ◌-◌, ◌^◌}
use Rattle.engine_pages.specs.Passes.{view}
use Rattle.tree_drops.proofs.Storages.{can_visit_root, no_tree, visited_root}
use Rattle.tree_drops.proofs.calls.visit_tree.Goals as goal

pub returns-in_default-clause-visits : goal.returns-in_default-clause-visits
returns-in_default-clause-visits c =
    no_tree c.args.engine.now.table.shared.key c.args.root c.args.page c.args.epoch c.tree_at.result c.args.before
    (view c.args.pass.now) c.requires.of.layout c.requires.over.declared c.in_default.not-Some c.tree_at.ensures.kind

pub visit-requires-clause-visit : goal.visit-requires-clause-visit
visit-requires-clause-visit c =
    can_visit_root c.args.engine.now.table.shared.key c.args.root c.args.page c.args.epoch c.in-Some.storage (10 + c.args.root)
    c.tree_at.result (record { storage = c.in-Some.storage; low = 0; high = 2 ^ 64 - 1 }) (view c.args.pass.now)
    c.requires.of.layout c.requires.over c.in-Some.is c.tree_at.ensures.kind c.requires.root c.requires.past c.requires.unsealed refl refl

pub returns-clause-visits : goal.returns-clause-visits
returns-clause-visits c =
    visited_root c.args.engine.now.table.shared.key c.args.root c.args.page c.args.epoch c.in-Some.storage (10 + c.args.root)
    c.tree_at.result (record { storage = c.in-Some.storage; low = 0; high = 2 ^ 64 - 1 }) (view c.args.pass.now)
    c.requires.of.layout c.requires.over c.in-Some.is c.tree_at.ensures.kind c.requires.root c.requires.past c.requires.unsealed refl refl
    c.args.before c.visit.result (view c.visit.new.pass) c.visit.ensures.visits
