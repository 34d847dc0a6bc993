use Rattle.engine_pages.specs.Passes.{view}
use Rattle.tree_drops.proofs.Opens.{can_drop_branch, closed_by}
use Rattle.tree_drops.proofs.visits.close.Goals as goal

pub drop_branch_from-found-requires-clause-drop : goal.drop_branch_from-found-requires-clause-drop
drop_branch_from-found-requires-clause-drop c =
    can_drop_branch c.args.target.place c.args.target.span c.args.target.at c.args.opened.slot c.args.target.page
    c.args.opened.word c.args.target.epoch c.args.opened.count (view c.args.pass.now) c.requires.work c.requires.opened

pub returns-clause-closes : goal.returns-clause-closes
returns-clause-closes c =
    closed_by c.args.target.place c.args.target.span c.args.target.at c.args.target.page c.args.target.epoch c.args.opened.slot
    c.args.opened.word c.args.opened.count c.args.before c.and.result c.drop_branch_from-found.result (view c.args.pass.now)
    (view c.drop_branch_from-found.new.pass) (view c.leave.new.pass) c.requires.work c.drop_branch_from-found.ensures.reads
    c.drop_branch_from-found.ensures.drops c.drop_branch_from-found.ensures.keeps c.drop_branch_from-found.ensures.tells
    c.drop_branch_from-found.ensures.lefts c.drop_branch_from-found.ensures.later
    c.leave.ensures.leaves c.and.ensures.drops c.and.ensures.keeps
