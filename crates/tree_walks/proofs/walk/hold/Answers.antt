use Rattle.std.proofs.Common.{◌-◌, ◌<◌, sym, ◌∙◌, subst}
use Rattle.std.specs.Prelude.{Err}
use Rattle.std.proofs.lemmas.Result.{err_from_is_err_and}
use Rattle.engine_pages.specs.declared.layout.Layout.{Layout}
use Rattle.engine_pages.specs.declared.view.RefusalCause.{RefusalCause}
use Rattle.engine_pages.specs.Layout.{words_of}
use Rattle.engine_pages.specs.Passes.{view}
use Rattle.tree_walks.specs.Steps.{GoesSo, IsHeldOn}
use Rattle.tree_walks.proofs.ReachLaws.{hold_changed, hold_held, hold_same, hold_wide}
use Rattle.tree_walks.proofs.StepLaws.{layout_stays, place_stays}
use Rattle.tree_walks.proofs.walk.hold.Goals as goal

pub returns-then-contains-clause-goes : goal.returns-then-contains-clause-goes
returns-then-contains-clause-goes c = λ k pointers headers over set.
    hold_same k pointers headers c.args.holds.now c.args.at c.args.word c.args.span (view c.args.pass.now) c.requires.can
    c.requires.tree c.requires.led over (sym c.contains.ensures ∙ c.if-contains.true)

pub enter_slot-requires-clause-there : goal.enter_slot-requires-clause-there
enter_slot-requires-clause-there c = c.requires.led.there

pub follow-again-requires-clause-pass : goal.follow-again-requires-clause-pass
follow-again-requires-clause-pass c = c.in_ok-enter_slot.ensures.enters.went.can.active

pub follow-again-requires-clause-place : goal.follow-again-requires-clause-place
follow-again-requires-clause-place c =
    place_stays (view c.args.pass.now) (view c.enter_slot.new.pass) c.args.place c.args.span c.args.at
    c.in_ok-enter_slot.ensures.enters.went.walked c.requires.place

pub follow-again-requires-clause-word : goal.follow-again-requires-clause-word
follow-again-requires-clause-word c =
    subst (λ (y : Layout). c.args.at < words_of y)
    (sym (layout_stays (view c.args.pass.now) (view c.enter_slot.new.pass) c.in_ok-enter_slot.ensures.enters.went.walked))
    c.requires.word

pub returns-then-again-word-clause-goes : goal.returns-then-again-word-clause-goes
returns-then-again-word-clause-goes c = λ k pointers headers over set.
    subst (λ (r : RefusalCause). GoesSo 2 k pointers headers c.enter_slot.new.holds (IsHeldOn k c.args.span) (Err r)
    (view c.args.pass.now) (view c.follow-again.new.pass)) (sym c.conflict.ensures)
    (hold_changed k pointers headers c.enter_slot.new.holds c.args.place c.args.at c.args.word c.args.span
    (view c.args.pass.now) c.requires.place c.requires.word c.requires.tree c.requires.slot c.requires.unshut
    c.requires.led over c.requires.apart c.requires.inside (view c.enter_slot.new.pass) c.follow-again.result (view c.follow-again.new.pass)
    c.in_ok-enter_slot.ensures.enters c.follow-again.ensures.follows c.requires.known c.if-again-word.true set)

pub returns-clause-goes : goal.returns-clause-goes
returns-clause-goes c = λ k pointers headers over set.
    hold_held k pointers headers c.enter_slot.new.holds c.args.place c.args.at c.args.word c.args.span
    (view c.args.pass.now) c.requires.place c.requires.word c.requires.tree c.requires.slot c.requires.unshut
    c.requires.led over c.requires.apart c.requires.inside (view c.enter_slot.new.pass) c.follow-again.result (view c.follow-again.new.pass)
    c.in_ok-enter_slot.ensures.enters c.follow-again.ensures.follows c.requires.known c.if-again-word.false set

pub returns-in_err-enter_slot-clause-goes : goal.returns-in_err-enter_slot-clause-goes
returns-in_err-enter_slot-clause-goes c =
    let p = err_from_is_err_and c.from_residual.result c.from_residual.ensures.1 in
    rw (p.1, p.2) (λ k pointers headers over set.
    hold_wide k pointers headers c.enter_slot.new.holds c.args.place c.args.at c.args.word c.args.span
    (view c.args.pass.now) c.requires.place c.requires.word c.requires.tree c.requires.slot c.requires.unshut
    c.requires.led over c.requires.apart c.requires.inside c.in_err-enter_slot.field-0.0 (view c.enter_slot.new.pass)
    c.in_err-enter_slot.ensures.enters)
