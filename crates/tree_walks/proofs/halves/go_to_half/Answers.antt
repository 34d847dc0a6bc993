use Rattle.std.proofs.Common.{sym, ap, ◌∙◌, subst}
use Rattle.std.specs.Prelude.{Err}
use Rattle.std.proofs.lemmas.Result.{err_from_is_err_and}
use Rattle.engine_pages.specs.declared.layout.Layout.{Layout}
use Rattle.engine_pages.specs.declared.view.RefusalCause.{RefusalCause}
use Rattle.engine_pages.specs.Layout.{page_at}
use Rattle.engine_pages.specs.Passes.{view}
use Rattle.tree_walks.specs.Steps.{GoesSo, IsHalfBelow}
use Rattle.tree_walks.proofs.HalfLaws.{half_changed, half_come, half_locked, half_wide}
use Rattle.tree_walks.proofs.LoadLaws.{glanced_went}
use Rattle.tree_walks.proofs.StepLaws.{layout_stays, on_stays, slots_stay, walked_then}
use Rattle.tree_walks.proofs.halves.go_to_half.Goals as goal

pub load_header-later-requires-clause-pass : goal.load_header-later-requires-clause-pass
load_header-later-requires-clause-pass c = c.requires.can.active

pub load_header-later-requires-clause-slot : goal.load_header-later-requires-clause-slot
load_header-later-requires-clause-slot c = c.requires.on.there

pub load_header-later-requires-clause-page : goal.load_header-later-requires-clause-page
load_header-later-requires-clause-page c = record { way = c.requires.on.way; tree = c.requires.on.tree }

pub returns-then-header-ge-MOVED_LOCKED-clause-goes : goal.returns-then-header-ge-MOVED_LOCKED-clause-goes
returns-then-header-ge-MOVED_LOCKED-clause-goes c = λ pointers headers set.
    let v = view c.args.pass.now in
    let w = view c.load_header-later.new.pass in
    subst (λ (r : RefusalCause). GoesSo 4 c.args.key pointers headers c.args.holds.now (IsHalfBelow c.args.key c.args.page)
    (Err r) v w) (sym c.conflict.ensures)
    (half_locked c.args.key pointers headers c.args.holds.now c.args.page c.args.at c.args.header v c.requires.can
    c.requires.on c.requires.word c.requires.moved c.requires.met set c.requires.known.0 c.load_header-later.result w
    c.requires.known.1 c.requires.known.2 c.if-header-ge-MOVED_LOCKED.true c.requires.small
    c.load_header-later.ensures.loads)

pub pick_half-half-requires-clause-active : goal.pick_half-half-requires-clause-active
pick_half-half-requires-clause-active c = c.requires.can.active

pub pick_half-half-requires-clause-split : goal.pick_half-half-requires-clause-split
pick_half-half-requires-clause-split c = c.requires.split c.if-header-ge-MOVED_LOCKED.false

pub enter_slot-requires-clause-can : goal.enter_slot-requires-clause-can
enter_slot-requires-clause-can c =
    (glanced_went 2 c.args.holds.now (view c.args.pass.now) (view c.pick_half-half.new.pass) c.requires.can
    c.pick_half-half.ensures.glances c.pick_half-half.ensures.most).can

pub enter_slot-requires-clause-there : goal.enter_slot-requires-clause-there
enter_slot-requires-clause-there c = c.pick_half-half.ensures.half.there

pub load_moved-again-requires-clause-pass : goal.load_moved-again-requires-clause-pass
load_moved-again-requires-clause-pass c = c.in_ok-enter_slot.ensures.enters.went.can.active

pub load_moved-again-requires-clause-slot : goal.load_moved-again-requires-clause-slot
load_moved-again-requires-clause-slot c =
    let v = view c.args.pass.now in
    let g = view c.pick_half-half.new.pass in
    let e = view c.enter_slot.new.pass in
    slots_stay v e c.args.page.slot
    (walked_then v g e (glanced_went 2 c.args.holds.now v g c.requires.can c.pick_half-half.ensures.glances
    c.pick_half-half.ensures.most).walked c.in_ok-enter_slot.ensures.enters.went.walked) c.requires.on.there

pub load_moved-again-requires-clause-word : goal.load_moved-again-requires-clause-word
load_moved-again-requires-clause-word c =
    let v = view c.args.pass.now in
    let g = view c.pick_half-half.new.pass in
    let e = view c.enter_slot.new.pass in
    c.requires.word ∙ ap (λ (l : Layout). page_at l.slots c.args.page.slot 0)
    (sym (layout_stays v e
    (walked_then v g e (glanced_went 2 c.args.holds.now v g c.requires.can c.pick_half-half.ensures.glances
    c.pick_half-half.ensures.most).walked c.in_ok-enter_slot.ensures.enters.went.walked)))

pub load_moved-again-requires-clause-page : goal.load_moved-again-requires-clause-page
load_moved-again-requires-clause-page c =
    let v = view c.args.pass.now in
    let g = view c.pick_half-half.new.pass in
    let e = view c.enter_slot.new.pass in
    let on = on_stays c.args.key v e c.args.page.slot c.args.page.span
    (walked_then v g e (glanced_went 2 c.args.holds.now v g c.requires.can c.pick_half-half.ensures.glances
    c.pick_half-half.ensures.most).walked c.in_ok-enter_slot.ensures.enters.went.walked) c.requires.on in
    record { way = on.way; tree = on.tree }

pub load_moved-again-requires-clause-known : goal.load_moved-again-requires-clause-known
load_moved-again-requires-clause-known c =
    let half = c.pick_half-half.ensures.half in
    (half.moved, c.in_ok-enter_slot.ensures.enters.went.walked.moved half.moved half.knows, half.same)

pub returns-then-again-header-clause-goes : goal.returns-then-again-header-clause-goes
returns-then-again-header-clause-goes c = λ pointers headers set.
    let v = view c.args.pass.now in
    let w = view c.load_moved-again.new.pass in
    subst (λ (r : RefusalCause). GoesSo 4 c.args.key pointers headers c.enter_slot.new.holds
    (IsHalfBelow c.args.key c.args.page) (Err r) v w) (sym c.conflict-then-again-header.ensures)
    (half_changed c.args.key pointers headers c.args.holds.now c.args.page c.args.at c.args.header v c.requires.can
    c.requires.on c.requires.word c.requires.moved c.requires.met set c.pick_half-half.result c.enter_slot.new.holds
    (view c.pick_half-half.new.pass) (view c.enter_slot.new.pass) c.load_moved-again.result w
    c.pick_half-half.ensures.glances c.pick_half-half.ensures.most c.pick_half-half.ensures.half
    c.in_ok-enter_slot.ensures.enters c.load_moved-again.ensures.meets
    c.requires.known.0 c.requires.known.1 c.requires.known.2 c.if-again-header.true)

pub returns-clause-goes : goal.returns-clause-goes
returns-clause-goes c = λ pointers headers set.
    half_come c.args.key pointers headers c.args.holds.now c.args.page c.args.at c.args.header (view c.args.pass.now)
    c.requires.can c.requires.on c.requires.word c.requires.moved c.requires.met set c.pick_half-half.result
    c.enter_slot.new.holds (view c.pick_half-half.new.pass) (view c.enter_slot.new.pass) c.load_moved-again.result
    (view c.load_moved-again.new.pass) c.pick_half-half.ensures.glances c.pick_half-half.ensures.most
    c.pick_half-half.ensures.half c.in_ok-enter_slot.ensures.enters c.load_moved-again.ensures.meets
    c.if-again-header.false c.if-header-ge-MOVED_LOCKED.false

pub returns-in_err-enter_slot-clause-goes : goal.returns-in_err-enter_slot-clause-goes
returns-in_err-enter_slot-clause-goes c =
    let p = err_from_is_err_and c.from_residual.result c.from_residual.ensures.1 in
    rw (p.1, p.2) (λ pointers headers set.
    half_wide c.args.key pointers headers c.args.holds.now c.args.page c.args.at c.args.header
    (view c.args.pass.now) c.requires.can c.requires.on c.requires.word c.requires.moved c.requires.met set
    c.pick_half-half.result c.enter_slot.new.holds c.in_err-enter_slot.field-0.0 (view c.pick_half-half.new.pass) (view c.enter_slot.new.pass)
    c.pick_half-half.ensures.glances c.pick_half-half.ensures.most c.pick_half-half.ensures.half
    c.if-header-ge-MOVED_LOCKED.false c.in_err-enter_slot.ensures.enters)
