use Rattle.std.proofs.Common.{refl}
use Rattle.engine_pages.specs.Passes.{view}
use Rattle.tree_drops.proofs.Pages.{branch_ended, branch_last, branch_opened, branch_parts, leaf_bits, leaf_chain, leaf_ended}
use Rattle.tree_drops.proofs.Pages.{leaf_known, leaf_last, leaf_met, leaf_work}
use Rattle.tree_drops.proofs.Places.{word_here}
use Rattle.tree_drops.proofs.visits.open_page.Goals as goal

pub end_leaf-requires-clause-work : goal.end_leaf-requires-clause-work
end_leaf-requires-clause-work c =
    leaf_work c.args.target.place c.args.target.span c.args.target.at c.args.held.slot c.args.target.page c.args.held.word
    c.args.target.epoch c.load_header-header.result c.word_at-at.result (view c.args.pass.now) (view c.word_of-wanted.new.pass)
    (view c.load_header-header.new.pass) c.requires.work c.word_of-wanted.ensures.glances (word_here c.args.engine.now
    c.word_of-wanted.new.pass c.args.held.slot 0 c.word_at-at.result c.word_of-wanted.ensures.of c.word_at-at.ensures)
    c.load_header-header.ensures.loads c.if-header-eq1.true

pub end_leaf-requires-clause-known : goal.end_leaf-requires-clause-known
end_leaf-requires-clause-known c =
    leaf_known c.args.target.place c.args.target.span c.args.target.at c.args.held.slot c.args.target.page c.args.held.word
    c.args.target.epoch c.load_header-header.result c.word_at-at.result (view c.args.pass.now) (view c.word_of-wanted.new.pass)
    (view c.load_header-header.new.pass) c.requires.work c.word_of-wanted.ensures.glances (word_here c.args.engine.now
    c.word_of-wanted.new.pass c.args.held.slot 0 c.word_at-at.result c.word_of-wanted.ensures.of c.word_at-at.ensures)
    c.load_header-header.ensures.loads c.if-header-eq1.true

pub end_leaf-requires-clause-last : goal.end_leaf-requires-clause-last
end_leaf-requires-clause-last c =
    leaf_last c.args.target.place c.args.target.span c.args.target.at c.args.held.slot c.args.target.page c.args.held.word
    c.args.target.epoch c.load_header-header.result c.word_at-at.result (view c.args.pass.now) (view c.word_of-wanted.new.pass)
    (view c.load_header-header.new.pass) c.requires.work c.word_of-wanted.ensures.glances (word_here c.args.engine.now
    c.word_of-wanted.new.pass c.args.held.slot 0 c.word_at-at.result c.word_of-wanted.ensures.of c.word_at-at.ensures)
    c.load_header-header.ensures.loads c.if-header-eq1.true

pub end_leaf-requires-clause-met : goal.end_leaf-requires-clause-met
end_leaf-requires-clause-met c =
    leaf_met c.args.target.place c.args.target.span c.args.target.at c.args.held.slot c.args.target.page c.args.held.word
    c.args.target.epoch c.load_header-header.result c.word_at-at.result (view c.args.pass.now) (view c.word_of-wanted.new.pass)
    (view c.load_header-header.new.pass) c.requires.work c.word_of-wanted.ensures.glances (word_here c.args.engine.now
    c.word_of-wanted.new.pass c.args.held.slot 0 c.word_at-at.result c.word_of-wanted.ensures.of c.word_at-at.ensures)
    c.load_header-header.ensures.loads c.if-header-eq1.true

pub end_leaf-requires-clause-bits : goal.end_leaf-requires-clause-bits
end_leaf-requires-clause-bits c =
    leaf_bits c.args.target.place c.args.target.span c.args.target.at c.args.held.slot c.args.target.page c.args.held.word
    c.args.target.epoch c.load_header-header.result c.word_at-at.result (view c.args.pass.now) (view c.word_of-wanted.new.pass)
    (view c.load_header-header.new.pass) c.requires.work c.word_of-wanted.ensures.glances (word_here c.args.engine.now
    c.word_of-wanted.new.pass c.args.held.slot 0 c.word_at-at.result c.word_of-wanted.ensures.of c.word_at-at.ensures)
    c.load_header-header.ensures.loads c.if-header-eq1.true

pub end_leaf-requires-clause-chain : goal.end_leaf-requires-clause-chain
end_leaf-requires-clause-chain c =
    leaf_chain c.args.target.place c.args.target.span c.args.target.at c.args.held.slot c.args.target.page c.args.held.word
    c.args.target.epoch c.load_header-header.result c.word_at-at.result (view c.args.pass.now) (view c.word_of-wanted.new.pass)
    (view c.load_header-header.new.pass) c.requires.work c.word_of-wanted.ensures.glances (word_here c.args.engine.now
    c.word_of-wanted.new.pass c.args.held.slot 0 c.word_at-at.result c.word_of-wanted.ensures.of c.word_at-at.ensures)
    c.load_header-header.ensures.loads c.if-header-eq1.true c.args.target refl refl refl refl refl

pub returns-then-header-eq1-clause-ends : goal.returns-then-header-eq1-clause-ends
returns-then-header-eq1-clause-ends c =
    leaf_ended c.args.target.place c.args.target.span c.args.target.at c.args.held.slot c.args.target.page c.args.held.word
    c.args.target.epoch c.load_header-header.result c.word_at-at.result (view c.args.pass.now) (view c.word_of-wanted.new.pass)
    (view c.load_header-header.new.pass) c.requires.work c.word_of-wanted.ensures.glances (word_here c.args.engine.now
    c.word_of-wanted.new.pass c.args.held.slot 0 c.word_at-at.result c.word_of-wanted.ensures.of c.word_at-at.ensures)
    c.load_header-header.ensures.loads c.if-header-eq1.true
    c.args.before c.end_leaf.result (view c.end_leaf.new.pass) c.end_leaf.ensures.ends

pub compare_branch-requires-clause-parts : goal.compare_branch-requires-clause-parts
compare_branch-requires-clause-parts c =
    branch_parts c.args.target.place c.args.target.span c.args.target.at c.args.held.slot c.args.target.page c.args.held.word
    c.args.target.epoch c.load_header-header.result c.word_at-at.result (view c.args.pass.now) (view c.word_of-wanted.new.pass)
    (view c.load_header-header.new.pass) c.requires.work c.word_of-wanted.ensures.glances (word_here c.args.engine.now
    c.word_of-wanted.new.pass c.args.held.slot 0 c.word_at-at.result c.word_of-wanted.ensures.of c.word_at-at.ensures) c.load_header-header.ensures.loads c.if-header-eq1.false

pub compare_branch-requires-clause-last : goal.compare_branch-requires-clause-last
compare_branch-requires-clause-last c =
    branch_last c.args.target.place c.args.target.span c.args.target.at c.args.held.slot c.args.target.page c.args.held.word
    c.args.target.epoch c.load_header-header.result c.word_at-at.result (view c.args.pass.now) (view c.word_of-wanted.new.pass)
    (view c.load_header-header.new.pass) c.requires.work c.word_of-wanted.ensures.glances (word_here c.args.engine.now
    c.word_of-wanted.new.pass c.args.held.slot 0 c.word_at-at.result c.word_of-wanted.ensures.of c.word_at-at.ensures) c.load_header-header.ensures.loads c.if-header-eq1.false

pub returns-in-Ok-clause-opens : goal.returns-in-Ok-clause-opens
returns-in-Ok-clause-opens c =
    branch_opened c.args.target.place c.args.target.span c.args.target.at c.args.held.slot c.args.target.page c.args.held.word
    c.args.target.epoch c.load_header-header.result c.word_at-at.result (view c.args.pass.now) (view c.word_of-wanted.new.pass)
    (view c.load_header-header.new.pass) c.requires.work c.word_of-wanted.ensures.glances (word_here c.args.engine.now
    c.word_of-wanted.new.pass c.args.held.slot 0 c.word_at-at.result c.word_of-wanted.ensures.of c.word_at-at.ensures) c.load_header-header.ensures.loads c.if-header-eq1.false
    c.in-Ok.count (view c.compare_branch.new.pass) c.in-Ok.ensures.opens

pub returns-in-Err-clause-ends : goal.returns-in-Err-clause-ends
returns-in-Err-clause-ends c =
    branch_ended c.args.target.place c.args.target.span c.args.target.at c.args.held.slot c.args.target.page c.args.held.word
    c.args.target.epoch c.load_header-header.result c.word_at-at.result (view c.args.pass.now) (view c.word_of-wanted.new.pass)
    (view c.load_header-header.new.pass) c.requires.work c.word_of-wanted.ensures.glances (word_here c.args.engine.now
    c.word_of-wanted.new.pass c.args.held.slot 0 c.word_at-at.result c.word_of-wanted.ensures.of c.word_at-at.ensures) c.load_header-header.ensures.loads c.if-header-eq1.false
    c.in-Err.kept c.args.before c.and_kept.result (view c.compare_branch.new.pass) (view c.leave.new.pass)
    c.in-Err.ensures.keeps c.leave.ensures.leaves c.and_kept.ensures.counts
