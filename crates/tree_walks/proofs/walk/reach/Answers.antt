use Rattle.std.proofs.Common.{◌<◌, sym, subst}
use Rattle.std.specs.Prelude.{Err}
use Rattle.std.proofs.lemmas.Result.{err_from_is_err_and}
use Rattle.engine_pages.specs.declared.layout.Layout.{Layout}
use Rattle.engine_pages.specs.declared.view.RefusalCause.{RefusalCause}
use Rattle.engine_pages.specs.Layout.{words_of}
use Rattle.engine_pages.specs.Passes.{view}
use Rattle.tree_walks.specs.Steps.{GoesSo, IsReached}
use Rattle.tree_walks.specs.Walks.{IsNoHeader, LiesInPage}
use Rattle.tree_walks.proofs.LoadLaws.{follow_load}
use Rattle.tree_walks.proofs.ReachLaws.{led_at, reach_bare, reach_other, reach_shut, reach_slot, reach_unheld}
use Rattle.tree_walks.proofs.StepLaws.{active_stays, can_after, layout_stays, place_stays, tree_stays, word_stays}
use Rattle.tree_walks.proofs.walk.reach.Goals as goal

pub follow-word-requires-clause-pass : goal.follow-word-requires-clause-pass
follow-word-requires-clause-pass c = c.requires.can.active

pub follow-later-requires-clause-pass : goal.follow-later-requires-clause-pass
follow-later-requires-clause-pass c =
    let v = view c.args.pass.now in
    let u = view c.follow-word.new.pass in
    active_stays v u (follow_load c.args.span c.args.at v c.follow-word.result u c.follow-word.ensures.follows).walked
    c.requires.can.active

pub follow-later-requires-clause-place : goal.follow-later-requires-clause-place
follow-later-requires-clause-place c =
    let v = view c.args.pass.now in
    let u = view c.follow-word.new.pass in
    place_stays v u c.args.place c.args.span c.args.at
    (follow_load c.args.span c.args.at v c.follow-word.result u c.follow-word.ensures.follows).walked c.requires.place

pub follow-later-requires-clause-word : goal.follow-later-requires-clause-word
follow-later-requires-clause-word c =
    let v = view c.args.pass.now in
    let u = view c.follow-word.new.pass in
    subst (λ (y : Layout). c.args.at < words_of y)
    (sym (layout_stays v u
    (follow_load c.args.span c.args.at v c.follow-word.result u c.follow-word.ensures.follows).walked))
    c.requires.word

pub returns-then-word-ge-SHUT-clause-goes : goal.returns-then-word-ge-SHUT-clause-goes
returns-then-word-ge-SHUT-clause-goes c = λ k headers over.
    let v = view c.args.pass.now in
    let u = view c.follow-word.new.pass in
    let w = view c.follow-later.new.pass in
    subst (λ (r : RefusalCause). GoesSo 3 k c.args.pointers.now headers c.args.holds.now
    (IsReached k c.args.pointers.now c.args.place c.args.span c.args.at) (Err r) v w) (sym c.conflict.ensures)
    (reach_shut k c.args.pointers.now headers c.args.holds.now c.args.place c.args.span c.args.at v c.follow-word.result u
    c.requires.can c.requires.place c.requires.word c.requires.tree c.requires.known c.follow-word.ensures.follows over
    c.requires.apart c.requires.inside
    c.follow-later.result w c.in_ok-check_met.ensures.met c.if-word-ge-SHUT.true c.follow-later.ensures.follows)

pub returns-then-word-lt-SLOT-clause-goes : goal.returns-then-word-lt-SLOT-clause-goes
returns-then-word-lt-SLOT-clause-goes c = λ k headers over.
    let v = view c.args.pass.now in
    let u = view c.follow-word.new.pass in
    reach_bare k c.args.pointers.now headers c.args.holds.now c.args.place c.args.span c.args.at v c.follow-word.result u
    c.requires.can c.requires.place c.requires.word c.requires.tree c.requires.known c.follow-word.ensures.follows over
    c.requires.apart c.requires.inside
    c.in_ok-check_met.ensures.met c.if-word-lt-SLOT.true

pub hold-requires-clause-can : goal.hold-requires-clause-can
hold-requires-clause-can c =
    let v = view c.args.pass.now in
    let u = view c.follow-word.new.pass in
    let l = follow_load c.args.span c.args.at v c.follow-word.result u c.follow-word.ensures.follows in
    can_after c.args.holds.now v u l.walked l.grip l.agree l.trees c.requires.can

pub hold-requires-clause-place : goal.hold-requires-clause-place
hold-requires-clause-place c =
    let v = view c.args.pass.now in
    let u = view c.follow-word.new.pass in
    place_stays v u c.args.place c.args.span c.args.at
    (follow_load c.args.span c.args.at v c.follow-word.result u c.follow-word.ensures.follows).walked c.requires.place

pub hold-requires-clause-word : goal.hold-requires-clause-word
hold-requires-clause-word c =
    let v = view c.args.pass.now in
    let u = view c.follow-word.new.pass in
    subst (λ (y : Layout). c.args.at < words_of y)
    (sym (layout_stays v u
    (follow_load c.args.span c.args.at v c.follow-word.result u c.follow-word.ensures.follows).walked))
    c.requires.word

pub hold-requires-clause-tree : goal.hold-requires-clause-tree
hold-requires-clause-tree c =
    let v = view c.args.pass.now in
    let u = view c.follow-word.new.pass in
    tree_stays v u c.args.span.storage
    (follow_load c.args.span c.args.at v c.follow-word.result u c.follow-word.ensures.follows).walked c.requires.tree

pub hold-requires-clause-known : goal.hold-requires-clause-known
hold-requires-clause-known c =
    let v = view c.args.pass.now in
    let u = view c.follow-word.new.pass in
    word_stays v u c.args.at
    (follow_load c.args.span c.args.at v c.follow-word.result u c.follow-word.ensures.follows).walked c.requires.known

pub hold-requires-clause-inside : goal.hold-requires-clause-inside
hold-requires-clause-inside c =
    let v = view c.args.pass.now in
    let u = view c.follow-word.new.pass in
    subst (λ (y : Layout). LiesInPage y.slots c.args.place c.args.at)
    (sym (layout_stays v u
    (follow_load c.args.span c.args.at v c.follow-word.result u c.follow-word.ensures.follows).walked))
    c.requires.inside

pub hold-requires-clause-apart : goal.hold-requires-clause-apart
hold-requires-clause-apart c =
    let v = view c.args.pass.now in
    let u = view c.follow-word.new.pass in
    subst (λ (y : Layout). IsNoHeader y.slots c.args.at)
    (sym (layout_stays v u
    (follow_load c.args.span c.args.at v c.follow-word.result u c.follow-word.ensures.follows).walked))
    c.requires.apart

pub hold-requires-clause-led : goal.hold-requires-clause-led
hold-requires-clause-led c =
    led_at c.args.span c.args.at (view c.args.pass.now) c.follow-word.result (view c.follow-word.new.pass)
    c.follow-word.ensures.follows c.if-word-lt-SLOT.false c.if-word-ge-SHUT.false

pub returns-clause-goes : goal.returns-clause-goes
returns-clause-goes c = λ k headers over.
    let v = view c.args.pass.now in
    let u = view c.follow-word.new.pass in
    reach_slot k c.args.pointers.now headers c.args.holds.now c.args.place c.args.span c.args.at v c.follow-word.result u
    c.requires.can c.requires.place c.requires.word c.requires.tree c.requires.known c.follow-word.ensures.follows over
    c.requires.apart c.requires.inside
    c.in_ok-check_met.ensures.met c.hold.new.holds c.in_ok-slot.slot (view c.hold.new.pass)
    (c.in_ok-slot.ensures.goes k c.args.pointers.now headers over c.in_ok-check_met.ensures.met)

pub returns-in_err-check_met-clause-goes : goal.returns-in_err-check_met-clause-goes
returns-in_err-check_met-clause-goes c =
    let p = err_from_is_err_and c.from_residual.result c.from_residual.ensures.1 in
    let v = view c.args.pass.now in
    let u = view c.follow-word.new.pass in
    rw (p.1, p.2) (λ k headers over.
    reach_other k c.args.pointers.now headers c.args.holds.now c.args.place c.args.span c.args.at v c.follow-word.result u
    c.requires.can c.requires.place c.requires.word c.requires.tree c.requires.known c.follow-word.ensures.follows over
    c.requires.apart c.requires.inside
    c.in_err-check_met.field-0.0 c.in_err-check_met.ensures.other)

pub returns-in_err-slot-clause-goes : goal.returns-in_err-slot-clause-goes
returns-in_err-slot-clause-goes c =
    let p = err_from_is_err_and c.from_residual-in_err-slot.result c.from_residual-in_err-slot.ensures.1 in
    let v = view c.args.pass.now in
    let u = view c.follow-word.new.pass in
    rw (p.1, p.2) (λ k headers over.
    reach_unheld k c.args.pointers.now headers c.args.holds.now c.args.place c.args.span c.args.at v c.follow-word.result u
    c.requires.can c.requires.place c.requires.word c.requires.tree c.requires.known c.follow-word.ensures.follows over
    c.requires.apart c.requires.inside
    c.hold.new.holds c.in_err-slot.field-0.0 (view c.hold.new.pass)
    (c.in_err-slot.ensures.goes k c.args.pointers.now headers over c.in_ok-check_met.ensures.met))
