use Rattle.std.proofs.Common.{ℕ, ◌+◌, ◌-◌, ◌/◌, ◌^◌, ◌<◌, List, eqb-true, length, sym, ◌∙◌, subst}
use Rattle.std.specs.Prelude.{Ok, Err}
use Rattle.engine_pages.specs.declared.view.RefusalCause.TheVariants as causes
use Rattle.engine_pages.specs.declared.view.RefusalCause.{RefusalCause}
use Rattle.engine_pages.specs.declared.view.View.{View}
use Rattle.engine_pages.specs.Layout.{words_of}
use Rattle.engine_pages.specs.Passes.{view}
use Rattle.engine_pages.specs.Views.{IsActive}
use Rattle.array_pages.specs.Steps.{HoldsSo}
use Rattle.array_pages.proofs.WalkLaws.{below_full}
use Rattle.array_pages.proofs.LoadedLaws.{hold_changed, hold_held, hold_same, hold_wide, is_followed}
use Rattle.array_pages.proofs.WalkLaws.{place_entered}
use Rattle.engine_pages.specs.Pointers.{any_pointer}
use Rattle.array_pages.proofs.walk.hold.Goals as goal

pub returns-then-contains-clause-holds : goal.returns-then-contains-clause-holds
returns-then-contains-clause-holds c =
    hold_same c.args.holds.now c.args.at c.args.word c.args.span (view c.args.pass.now) c.requires.can c.requires.led
    (sym c.contains.ensures ∙ c.if-contains.true)

pub returns-then-is_full-clause-holds : goal.returns-then-is_full-clause-holds
returns-then-is_full-clause-holds c =
    hold_wide c.args.holds.now c.args.place c.args.at c.args.word c.args.span (view c.args.pass.now) c.requires.can
    c.requires.place c.requires.led c.requires.slot c.requires.unshut (sym c.contains.ensures ∙ c.if-contains.false)
    (eqb-true (length c.args.holds.now) 128 (sym c.is_full.ensures.value ∙ c.if-is_full.true))

pub enter-requires-clause-pass : goal.enter-requires-clause-pass
enter-requires-clause-pass c = c.requires.can.active

pub enter-requires-clause-slot : goal.enter-requires-clause-slot
enter-requires-clause-slot c = c.requires.led.there

pub enter-requires-clause-unheld : goal.enter-requires-clause-unheld
enter-requires-clause-unheld c =
    sym (c.requires.can.holds (c.args.word / 2 ^ 32 - 1)) ∙ (sym c.contains.ensures ∙ c.if-contains.false)

pub note_hold-requires-clause-absent : goal.note_hold-requires-clause-absent
note_hold-requires-clause-absent c = sym c.contains.ensures ∙ c.if-contains.false

pub note_hold-requires-clause-room : goal.note_hold-requires-clause-room
note_hold-requires-clause-room c =
    below_full (length c.args.holds.now) c.is_full.ensures.bound (sym c.is_full.ensures.value ∙ c.if-is_full.false)

pub follow-again-requires-clause-pass : goal.follow-again-requires-clause-pass
follow-again-requires-clause-pass c =
    subst (λ (z : View). IsActive z.role) (sym c.enter.ensures.enters) c.requires.can.active

pub follow-again-requires-clause-place : goal.follow-again-requires-clause-place
follow-again-requires-clause-place c =
    any_pointer (view c.enter.new.pass) c.args.place c.args.span c.args.at
    (place_entered (c.args.word / 2 ^ 32 - 1) (view c.args.pass.now)
    (view c.enter.new.pass) c.args.place c.args.span c.args.at
    c.enter.ensures.enters c.requires.place)

pub follow-again-requires-clause-word : goal.follow-again-requires-clause-word
follow-again-requires-clause-word c =
    subst (λ (z : View). c.args.at < words_of z.layout) (sym c.enter.ensures.enters) c.requires.word

pub returns-then-again-word-clause-holds : goal.returns-then-again-word-clause-holds
returns-then-again-word-clause-holds c =
    let v = view c.args.pass.now in
    let e = view c.enter.new.pass in
    let w = view c.follow-again.new.pass in
    subst (λ (r : RefusalCause). HoldsSo (length c.args.holds.now + 1) c.note_hold.new.holds c.args.at c.args.word
    c.args.span (Err r) v w) (sym c.conflict.ensures)
    (subst (λ (l : List ℕ). HoldsSo (length c.args.holds.now + 1) l c.args.at c.args.word c.args.span
    (Err (causes.Conflict c.args.at c.args.word c.follow-again.result)) v w)
    (sym c.note_hold.ensures)
    (hold_changed c.args.holds.now c.args.place c.args.at c.args.word c.args.span v e c.follow-again.result w
    c.requires.can
    c.requires.place c.requires.led c.enter.ensures.enters
    (is_followed c.args.span c.args.at e c.follow-again.result w c.follow-again.ensures.follows) c.if-again-word.true))

pub returns-clause-holds : goal.returns-clause-holds
returns-clause-holds c =
    let v = view c.args.pass.now in
    let e = view c.enter.new.pass in
    let w = view c.follow-again.new.pass in
    subst (λ (l : List ℕ). HoldsSo (length c.args.holds.now + 1) l c.args.at c.args.word c.args.span
    (Ok (c.args.word / 2 ^ 32 - 1)) v w)
    (sym c.note_hold.ensures)
    (hold_held c.args.holds.now c.args.place c.args.at c.args.word c.args.span v e c.follow-again.result w
    c.requires.can
    c.requires.place c.requires.led c.enter.ensures.enters
    (is_followed c.args.span c.args.at e c.follow-again.result w c.follow-again.ensures.follows) c.if-again-word.false
    c.requires.slot c.requires.unshut)
