use Rattle.std.proofs.Common.{arith}
use Rattle.std.specs.Prelude.{⊤}
use Rattle.lists.specs.Fronts.{front_length}
use Rattle.engine_pages.specs.Passes.{view}
use Rattle.page_drops.specs.Visits.{MetLeaf, IsLeafTree, IsInnerTree, dropped_leaf, notes_leaf, slots_leaf, swings_leaf}
use Rattle.page_drops.proofs.Counts.{leaf_few}
use Rattle.page_drops.proofs.InnerTurns.{active_left, bare_below, can_below, can_drop, held_below, held_left, inner_turned, room_after}
use Rattle.page_drops.proofs.InnerTurns.{slot_below, slot_left, unkept_left, worked_by}
use Rattle.page_drops.proofs.Laters.{leaf_stays}
use Rattle.page_drops.proofs.LeafTurns.{held_in, none_in}
use Rattle.page_drops.proofs.Visited.{inner_bare, inner_none, visited_above, visited_none}
use Rattle.page_drops.proofs.visits.visit_middle.Goals as goal

pub visit_leaves-below-requires-clause-inside : goal.visit_leaves-below-requires-clause-inside
visit_leaves-below-requires-clause-inside c =
    let inside = held_in c.args.span c.args.at c.args.page c.in-Ok-Some.field-0 c.in-Ok-Some.held (view c.args.pass.now)
    (view c.hold.new.pass) (cc) c.in-Ok-Some.ensures.holds in
    can_below 0 c.args.place c.args.span c.args.at c.args.page c.in-Ok-Some.held (view c.args.pass.now)
    (view c.hold.new.pass) c.requires.visit inside

pub drop_inner-result-requires-clause-drop : goal.drop_inner-result-requires-clause-drop
drop_inner-result-requires-clause-drop c =
    let inside = held_in c.args.span c.args.at c.args.page c.in-Ok-Some.field-0 c.in-Ok-Some.held (view c.args.pass.now)
    (view c.hold.new.pass) (cc) c.in-Ok-Some.ensures.holds in
    can_drop ⊤ dropped_leaf notes_leaf slots_leaf swings_leaf IsLeafTree leaf_stays 0 c.args.place c.args.span c.args.at c.args.page
    c.in-Ok-Some.held c.args.before c.visit_leaves-below.result (view c.args.pass.now) (view c.hold.new.pass)
    (view c.visit_leaves-below.new.pass) c.requires.visit inside c.visit_leaves-below.ensures.visits

pub leave-requires-clause-pass : goal.leave-requires-clause-pass
leave-requires-clause-pass c =
    let inside = held_in c.args.span c.args.at c.args.page c.in-Ok-Some.field-0 c.in-Ok-Some.held (view c.args.pass.now)
    (view c.hold.new.pass) (cc) c.in-Ok-Some.ensures.holds in
    let u = view c.visit_leaves-below.new.pass in
    let b = view c.drop_inner-result.new.pass in
    let bare = bare_below ⊤ dropped_leaf notes_leaf slots_leaf swings_leaf IsLeafTree leaf_stays 0 c.args.place c.args.span c.args.at c.args.page
    c.in-Ok-Some.held c.args.before c.visit_leaves-below.result (view c.args.pass.now) (view c.hold.new.pass) u c.requires.visit inside
    c.visit_leaves-below.ensures.visits in
    let worked = worked_by c.in-Ok-Some.held.slot c.args.page c.args.at c.in-Ok-Some.held.word c.drop_inner-result.result u b bare
    c.drop_inner-result.ensures.drops c.drop_inner-result.ensures.keeps in
    active_left u b bare worked

pub leave-requires-clause-slot : goal.leave-requires-clause-slot
leave-requires-clause-slot c =
    let inside = held_in c.args.span c.args.at c.args.page c.in-Ok-Some.field-0 c.in-Ok-Some.held (view c.args.pass.now)
    (view c.hold.new.pass) (cc) c.in-Ok-Some.ensures.holds in
    let u = view c.visit_leaves-below.new.pass in
    let b = view c.drop_inner-result.new.pass in
    let bare = bare_below ⊤ dropped_leaf notes_leaf slots_leaf swings_leaf IsLeafTree leaf_stays 0 c.args.place c.args.span c.args.at c.args.page
    c.in-Ok-Some.held c.args.before c.visit_leaves-below.result (view c.args.pass.now) (view c.hold.new.pass) u c.requires.visit inside
    c.visit_leaves-below.ensures.visits in
    let worked = worked_by c.in-Ok-Some.held.slot c.args.page c.args.at c.in-Ok-Some.held.word c.drop_inner-result.result u b bare
    c.drop_inner-result.ensures.drops c.drop_inner-result.ensures.keeps in
    slot_left c.in-Ok-Some.held.slot u b worked
    (slot_below ⊤ dropped_leaf notes_leaf slots_leaf swings_leaf IsLeafTree leaf_stays 0 c.args.place c.args.span c.args.at c.args.page c.in-Ok-Some.held
    c.args.before c.visit_leaves-below.result (view c.args.pass.now) (view c.hold.new.pass) u c.requires.visit inside
    c.visit_leaves-below.ensures.visits)

pub leave-requires-clause-held : goal.leave-requires-clause-held
leave-requires-clause-held c =
    let inside = held_in c.args.span c.args.at c.args.page c.in-Ok-Some.field-0 c.in-Ok-Some.held (view c.args.pass.now)
    (view c.hold.new.pass) (cc) c.in-Ok-Some.ensures.holds in
    let u = view c.visit_leaves-below.new.pass in
    let b = view c.drop_inner-result.new.pass in
    let bare = bare_below ⊤ dropped_leaf notes_leaf slots_leaf swings_leaf IsLeafTree leaf_stays 0 c.args.place c.args.span c.args.at c.args.page
    c.in-Ok-Some.held c.args.before c.visit_leaves-below.result (view c.args.pass.now) (view c.hold.new.pass) u c.requires.visit inside
    c.visit_leaves-below.ensures.visits in
    let worked = worked_by c.in-Ok-Some.held.slot c.args.page c.args.at c.in-Ok-Some.held.word c.drop_inner-result.result u b bare
    c.drop_inner-result.ensures.drops c.drop_inner-result.ensures.keeps in
    held_left c.in-Ok-Some.held.slot u b worked
    (held_below ⊤ dropped_leaf notes_leaf slots_leaf swings_leaf IsLeafTree leaf_stays 0 c.args.place c.args.span c.args.at c.args.page c.in-Ok-Some.held
    c.args.before c.visit_leaves-below.result (view c.args.pass.now) (view c.hold.new.pass) u c.requires.visit inside
    c.visit_leaves-below.ensures.visits)

pub leave-requires-clause-unkept : goal.leave-requires-clause-unkept
leave-requires-clause-unkept c =
    let inside = held_in c.args.span c.args.at c.args.page c.in-Ok-Some.field-0 c.in-Ok-Some.held (view c.args.pass.now)
    (view c.hold.new.pass) (cc) c.in-Ok-Some.ensures.holds in
    let u = view c.visit_leaves-below.new.pass in
    let b = view c.drop_inner-result.new.pass in
    let bare = bare_below ⊤ dropped_leaf notes_leaf slots_leaf swings_leaf IsLeafTree leaf_stays 0 c.args.place c.args.span c.args.at c.args.page
    c.in-Ok-Some.held c.args.before c.visit_leaves-below.result (view c.args.pass.now) (view c.hold.new.pass) u c.requires.visit inside
    c.visit_leaves-below.ensures.visits in
    let worked = worked_by c.in-Ok-Some.held.slot c.args.page c.args.at c.in-Ok-Some.held.word c.drop_inner-result.result u b bare
    c.drop_inner-result.ensures.drops c.drop_inner-result.ensures.keeps in
    unkept_left c.in-Ok-Some.held.slot u b bare worked

pub and-requires : goal.and-requires
and-requires c = record {
  room =
      room_after ⊤ dropped_leaf notes_leaf slots_leaf swings_leaf IsLeafTree 1 c.in-Ok-Some.held.slot c.args.page c.args.span c.args.before c.visit_leaves-below.result
      (view c.hold.new.pass) (view c.visit_leaves-below.new.pass) (λ w m tree. leaf_few m tree.below) c.requires.room c.visit_leaves-below.ensures.visits;
}

pub returns-in-Err-clause-visits : goal.returns-in-Err-clause-visits
returns-in-Err-clause-visits c =
    let v = view c.args.pass.now in
    let w = view c.hold.new.pass in
    let there = c.requires.visit.there in
    let long = front_length v.pages w.pages (c.in-Err.ensures.keeps.over).front in
    visited_above MetLeaf dropped_leaf notes_leaf slots_leaf swings_leaf (IsInnerTree ⊤ IsLeafTree) c.args.span c.args.page c.args.at c.args.before c.and_kept.result
    c.in-Err.kept v w c.in-Err.ensures.keeps c.and_kept.ensures.counts
    (inner_bare ⊤ IsLeafTree c.args.at c.args.page c.args.span w (omega (arith, there, long)))

pub returns-in-Ok-None-clause-visits : goal.returns-in-Ok-None-clause-visits
returns-in-Ok-None-clause-visits c =
    let v = view c.args.pass.now in
    let w = view c.hold.new.pass in
    let there = c.requires.visit.there in
    let none = none_in c.args.span c.args.at c.args.page c.in-Ok-None.field-0 v w (cc) c.in-Ok-None.ensures.holds in
    let long = front_length v.pages w.pages (none.over).front in
    visited_none MetLeaf dropped_leaf notes_leaf slots_leaf swings_leaf (IsInnerTree ⊤ IsLeafTree) c.args.span c.args.page c.args.at c.args.before v w none
    (inner_none ⊤ IsLeafTree c.args.at c.args.page c.args.span w (omega (arith, there, long)))

pub returns-in-Ok-Some-clause-visits : goal.returns-in-Ok-Some-clause-visits
returns-in-Ok-Some-clause-visits c =
    let inside = held_in c.args.span c.args.at c.args.page c.in-Ok-Some.field-0 c.in-Ok-Some.held (view c.args.pass.now)
    (view c.hold.new.pass) (cc) c.in-Ok-Some.ensures.holds in
    inner_turned ⊤ dropped_leaf notes_leaf slots_leaf swings_leaf IsLeafTree leaf_stays 0 c.args.place c.args.span c.args.at c.args.page c.in-Ok-Some.held
    c.args.before c.visit_leaves-below.result (view c.args.pass.now) (view c.hold.new.pass) (view c.visit_leaves-below.new.pass) c.requires.visit
    inside c.visit_leaves-below.ensures.visits c.and.result (view c.drop_inner-result.new.pass) (view c.leave.new.pass)
    c.drop_inner-result.ensures.reads c.leave.ensures.leaves c.drop_inner-result.result c.drop_inner-result.ensures.drops
    c.drop_inner-result.ensures.notes c.drop_inner-result.ensures.keeps c.drop_inner-result.ensures.tells
    c.drop_inner-result.ensures.later c.and.ensures.drops c.and.ensures.keeps
