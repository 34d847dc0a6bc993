use Rattle.std.proofs.Common.{[], arith}
use Rattle.std.specs.Prelude.{⊤}
use Rattle.lists.specs.Fronts.{front_length}
use Rattle.engine_pages.specs.Passes.{view}
use Rattle.page_drops.specs.Visits.{IsLeafTree}
use Rattle.page_drops.proofs.LeafTurns.{can_drop, held_in, leaf_left, none_in}
use Rattle.page_drops.proofs.Visited.{leaf_bare, leaf_none, visited_above, visited_none}
use Rattle.page_drops.proofs.visits.visit_leaf.Goals as goal

pub drop_leaf-result-requires-clause-drop : goal.drop_leaf-result-requires-clause-drop
drop_leaf-result-requires-clause-drop c =
    can_drop c.args.place c.args.span c.args.at c.args.page c.in-Ok-Some.held (view c.args.pass.now) (view c.hold.new.pass)
    c.requires.visit
    (held_in c.args.span c.args.at c.args.page c.in-Ok-Some.field-0 c.in-Ok-Some.held (view c.args.pass.now)
    (view c.hold.new.pass) (cc) c.in-Ok-Some.ensures.holds)

pub returns-in-Err-clause-visits : goal.returns-in-Err-clause-visits
returns-in-Err-clause-visits c =
    let v = view c.args.pass.now in
    let w = view c.hold.new.pass in
    let there = c.requires.visit.there in
    let long = front_length v.pages w.pages (c.in-Err.ensures.keeps.over).front in
    visited_above ⊤ (λ y. 0) (λ y. []) (λ y. []) (λ y. []) IsLeafTree c.args.span c.args.page c.args.at c.args.before
    c.and_kept.result c.in-Err.kept v w c.in-Err.ensures.keeps c.and_kept.ensures.counts
    (leaf_bare c.args.at c.args.page c.args.span w (omega (arith, there, long)))

pub returns-in-Ok-None-clause-visits : goal.returns-in-Ok-None-clause-visits
returns-in-Ok-None-clause-visits c =
    let v = view c.args.pass.now in
    let w = view c.hold.new.pass in
    let there = c.requires.visit.there in
    let none = none_in c.args.span c.args.at c.args.page c.in-Ok-None.field-0 v w (cc) c.in-Ok-None.ensures.holds in
    let long = front_length v.pages w.pages (none.over).front in
    visited_none ⊤ (λ y. 0) (λ y. []) (λ y. []) (λ y. []) IsLeafTree c.args.span c.args.page c.args.at c.args.before v w
    none (leaf_none c.args.at c.args.page c.args.span w (omega (arith, there, long)))

pub returns-in-Ok-Some-clause-visits : goal.returns-in-Ok-Some-clause-visits
returns-in-Ok-Some-clause-visits c =
    leaf_left c.args.place c.args.span c.args.at c.args.page c.let_go.result c.in-Ok-Some.held c.args.before c.and.result
    (view c.args.pass.now) (view c.hold.new.pass) (view c.drop_leaf-result.new.pass) (view c.let_go.new.pass)
    (view c.leave.new.pass) c.requires.visit
    (held_in c.args.span c.args.at c.args.page c.in-Ok-Some.field-0 c.in-Ok-Some.held (view c.args.pass.now)
    (view c.hold.new.pass) (cc) c.in-Ok-Some.ensures.holds) c.drop_leaf-result.ensures.more
    c.drop_leaf-result.ensures.reads c.let_go.ensures.lets_go c.leave.ensures.leaves c.drop_leaf-result.result
    c.drop_leaf-result.ensures.drops c.drop_leaf-result.ensures.keeps c.drop_leaf-result.ensures.tells
    c.drop_leaf-result.ensures.still
    c.and.ensures.drops c.and.ensures.keeps
