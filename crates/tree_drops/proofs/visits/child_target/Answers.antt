use Rattle.std.proofs.Common.{◌+◌}
use Rattle.engine_pages.specs.Passes.{view}
use Rattle.tree_drops.proofs.Opens.{child_told}
use Rattle.tree_drops.proofs.Parts.{branch_on}
use Rattle.tree_drops.proofs.Places.{word_here}
use Rattle.tree_drops.proofs.visits.child_target.Goals as goal

pub part_of-span-requires-clause-at : goal.part_of-span-requires-clause-at
part_of-span-requires-clause-at c =
    let o = c.requires.can.opened in
    let h = c.child_of-page.ensures.child o.at o.alike in
    branch_on c.args.branch.slot c.args.branch.page c.args.branch.count c.args.branch.span (view c.args.pass.now)
    (view c.child_of-page.new.pass) h.goes.on o.at

pub returns-clause-child : goal.returns-clause-child
returns-clause-child c =
    let o = c.requires.can.opened in
    let h = c.child_of-page.ensures.child o.at o.alike in
    child_told c.args.branch.slot c.args.branch.page c.args.branch.count c.args.index c.args.epoch c.child_of-page.result
    c.word_at-at.result c.args.branch.span c.part_of-span.result (view c.args.pass.now) (view c.child_of-page.new.pass)
    (view c.part_of-span.new.pass) c.requires.can c.requires.index h c.part_of-span.ensures.glances
    (c.part_of-span.ensures.part
    (branch_on c.args.branch.slot c.args.branch.page c.args.branch.count c.args.branch.span (view c.args.pass.now)
    (view c.child_of-page.new.pass) h.goes.on o.at))
    (word_here c.args.engine.now c.args.pass.now c.args.branch.slot (4 + c.args.index) c.word_at-at.result c.requires.of
    c.word_at-at.ensures)
