use Rattle.std.proofs.Common.{◌≡◌, ◌+◌, ◌<◌, true, length, sym, subst}
use Rattle.std.specs.Prelude.{Err}
use Rattle.std.proofs.lemmas.Result.{err_from_is_err_and}
use Rattle.engine_pages.specs.declared.layout.Layout.{Layout}
use Rattle.engine_pages.specs.declared.view.RefusalCause.{RefusalCause}
use Rattle.engine_pages.specs.Layout.{words_of}
use Rattle.engine_pages.specs.Pages.{is_array}
use Rattle.engine_pages.specs.Passes.{view}
use Rattle.array_pages.specs.Steps.{SettlesSo}
use Rattle.array_pages.proofs.RecordLaws.{active_stays}
use Rattle.array_pages.proofs.MakeLaws.{bare_at, can_first, settle_bare, settle_held, settle_other}
use Rattle.array_pages.proofs.MakeLaws.{settle_put, settle_shut, settle_unheld}
use Rattle.array_pages.proofs.WalkLaws.{layout_stays, place_stays}
use Rattle.array_pages.proofs.LoadedLaws.{IsFollowed, is_followed, led_to}
use Rattle.engine_pages.specs.Pointers.{any_pointer}
use Rattle.array_pages.proofs.making.settle.Goals as goal

pub follow-word-requires-clause-pass : goal.follow-word-requires-clause-pass
follow-word-requires-clause-pass c =
    c.requires.can.walks.active

pub follow-again-requires-clause-pass : goal.follow-again-requires-clause-pass
follow-again-requires-clause-pass c =
    let v = view c.args.pass.now in
    let u = view c.follow-word.new.pass in
    let n = c.follow-word.result in
    let f : IsFollowed c.args.span c.args.at v n u =
    is_followed c.args.span c.args.at v n u c.follow-word.ensures.follows in
    active_stays v u f.loaded.walked c.requires.can.walks.active

pub follow-word-requires-clause-place : goal.follow-word-requires-clause-place
follow-word-requires-clause-place c =
    any_pointer (view c.args.pass.now) c.args.place c.args.span c.args.at c.requires.place

pub follow-again-requires-clause-place : goal.follow-again-requires-clause-place
follow-again-requires-clause-place c =
    let v = view c.args.pass.now in
    let u = view c.follow-word.new.pass in
    let n = c.follow-word.result in
    let f : IsFollowed c.args.span c.args.at v n u =
    is_followed c.args.span c.args.at v n u c.follow-word.ensures.follows in
    any_pointer u c.args.place c.args.span c.args.at
    (place_stays v u c.args.place c.args.span c.args.at f.loaded.walked c.requires.place)

pub follow-again-requires-clause-word : goal.follow-again-requires-clause-word
follow-again-requires-clause-word c =
    let v = view c.args.pass.now in
    let u = view c.follow-word.new.pass in
    let n = c.follow-word.result in
    let f : IsFollowed c.args.span c.args.at v n u =
    is_followed c.args.span c.args.at v n u c.follow-word.ensures.follows in
    subst (λ (y : Layout). c.args.at < words_of y) (sym (layout_stays v u f.loaded.walked)) c.requires.word

pub hold-requires-clause-can : goal.hold-requires-clause-can
hold-requires-clause-can c =
    let v = view c.args.pass.now in
    let u = view c.follow-word.new.pass in
    let n = c.follow-word.result in
    let f : IsFollowed c.args.span c.args.at v n u =
    is_followed c.args.span c.args.at v n u c.follow-word.ensures.follows in
    (can_first c.args.pointers.now c.args.holds.now c.args.place c.args.span c.args.at n v u c.requires.can
    c.requires.place f).walks

pub hold-requires-clause-place : goal.hold-requires-clause-place
hold-requires-clause-place c =
    let v = view c.args.pass.now in
    let u = view c.follow-word.new.pass in
    let n = c.follow-word.result in
    let f : IsFollowed c.args.span c.args.at v n u =
    is_followed c.args.span c.args.at v n u c.follow-word.ensures.follows in
    place_stays v u c.args.place c.args.span c.args.at f.loaded.walked c.requires.place

pub hold-requires-clause-word : goal.hold-requires-clause-word
hold-requires-clause-word c =
    let v = view c.args.pass.now in
    let u = view c.follow-word.new.pass in
    let n = c.follow-word.result in
    let f : IsFollowed c.args.span c.args.at v n u =
    is_followed c.args.span c.args.at v n u c.follow-word.ensures.follows in
    subst (λ (y : Layout). c.args.at < words_of y) (sym (layout_stays v u f.loaded.walked)) c.requires.word

pub hold-requires-clause-led : goal.hold-requires-clause-led
hold-requires-clause-led c =
    let v = view c.args.pass.now in
    let u = view c.follow-word.new.pass in
    let n = c.follow-word.result in
    let f : IsFollowed c.args.span c.args.at v n u =
    is_followed c.args.span c.args.at v n u c.follow-word.ensures.follows in
    led_to c.args.span c.args.at v n u f.loaded c.if-word-ge-SLOT.true c.if-word-ge-SHUT.false

pub install_copy-requires-clause-can : goal.install_copy-requires-clause-can
install_copy-requires-clause-can c =
    let v = view c.args.pass.now in
    let u = view c.follow-word.new.pass in
    let n = c.follow-word.result in
    let f : IsFollowed c.args.span c.args.at v n u =
    is_followed c.args.span c.args.at v n u c.follow-word.ensures.follows in
    can_first c.args.pointers.now c.args.holds.now c.args.place c.args.span c.args.at n v u c.requires.can
    c.requires.place f

pub install_copy-requires-clause-place : goal.install_copy-requires-clause-place
install_copy-requires-clause-place c =
    let v = view c.args.pass.now in
    let u = view c.follow-word.new.pass in
    let n = c.follow-word.result in
    let f : IsFollowed c.args.span c.args.at v n u =
    is_followed c.args.span c.args.at v n u c.follow-word.ensures.follows in
    place_stays v u c.args.place c.args.span c.args.at f.loaded.walked c.requires.place

pub install_copy-requires-clause-word : goal.install_copy-requires-clause-word
install_copy-requires-clause-word c =
    let v = view c.args.pass.now in
    let u = view c.follow-word.new.pass in
    let n = c.follow-word.result in
    let f : IsFollowed c.args.span c.args.at v n u =
    is_followed c.args.span c.args.at v n u c.follow-word.ensures.follows in
    subst (λ (y : Layout). c.args.at < words_of y) (sym (layout_stays v u f.loaded.walked)) c.requires.word

pub install_copy-requires-clause-array : goal.install_copy-requires-clause-array
install_copy-requires-clause-array c =
    let v = view c.args.pass.now in
    let u = view c.follow-word.new.pass in
    let n = c.follow-word.result in
    let f : IsFollowed c.args.span c.args.at v n u =
    is_followed c.args.span c.args.at v n u c.follow-word.ensures.follows in
    subst (λ (y : Layout). is_array y.decls c.args.span.storage ≡ true) (sym (layout_stays v u f.loaded.walked))
    c.requires.array

pub install_copy-requires-clause-bare : goal.install_copy-requires-clause-bare
install_copy-requires-clause-bare c =
    let v = view c.args.pass.now in
    let u = view c.follow-word.new.pass in
    let n = c.follow-word.result in
    let f : IsFollowed c.args.span c.args.at v n u =
    is_followed c.args.span c.args.at v n u c.follow-word.ensures.follows in
    bare_at c.args.holds.now c.args.span c.args.at v n u
    (can_first c.args.pointers.now c.args.holds.now c.args.place c.args.span c.args.at n v u c.requires.can
    c.requires.place f).walks
    c.if-word-ge-SLOT.false c.follow-word.ensures.follows

pub returns-in_err-met-clause-settles : goal.returns-in_err-met-clause-settles
returns-in_err-met-clause-settles c =
    let p = err_from_is_err_and c.from_residual.result c.from_residual.ensures.1 in
    let v = view c.args.pass.now in
    let u = view c.follow-word.new.pass in
    let n = c.follow-word.result in
    let f : IsFollowed c.args.span c.args.at v n u =
    is_followed c.args.span c.args.at v n u c.follow-word.ensures.follows in
    rw (p.1, p.2)
    (settle_other c.args.pointers.now c.args.holds.now c.args.place c.args.span c.args.at n v u c.requires.can
    c.requires.place f
    c.in_err-met.field-0.0 c.in_err-met.ensures.other)

pub returns-then-word-ge-SHUT-clause-settles : goal.returns-then-word-ge-SHUT-clause-settles
returns-then-word-ge-SHUT-clause-settles c =
    let v = view c.args.pass.now in
    let u = view c.follow-word.new.pass in
    let n = c.follow-word.result in
    let f : IsFollowed c.args.span c.args.at v n u =
    is_followed c.args.span c.args.at v n u c.follow-word.ensures.follows in
    let w = view c.follow-again.new.pass in
    subst (λ (r : RefusalCause). SettlesSo (length c.args.holds.now + 1) c.args.pointers.now c.args.holds.now
    c.args.span c.args.at (Err r) v w)
    (sym c.conflict.ensures)
    (settle_shut c.args.pointers.now c.args.holds.now c.args.place c.args.span c.args.at n v u c.requires.can
    c.requires.place f
    c.in_ok-met.met c.follow-again.result w c.in_ok-met.ensures.met c.if-word-ge-SHUT.true
    (is_followed c.args.span c.args.at u c.follow-again.result w c.follow-again.ensures.follows))

pub returns-in_err-held-clause-settles : goal.returns-in_err-held-clause-settles
returns-in_err-held-clause-settles c =
    let p = err_from_is_err_and c.from_residual-in_err-held.result c.from_residual-in_err-held.ensures.1 in
    let v = view c.args.pass.now in
    let u = view c.follow-word.new.pass in
    let n = c.follow-word.result in
    let f : IsFollowed c.args.span c.args.at v n u =
    is_followed c.args.span c.args.at v n u c.follow-word.ensures.follows in
    rw (p.1, p.2)
    (settle_unheld c.args.pointers.now c.args.holds.now c.args.place c.args.span c.args.at n v u c.requires.can
    c.requires.place f
    c.in_ok-met.met c.hold.new.holds c.in_err-held.field-0.0 (view c.hold.new.pass) c.in_ok-met.ensures.met
    c.in_err-held.ensures.holds)

pub returns-then-word-ge-SLOT-clause-settles : goal.returns-then-word-ge-SLOT-clause-settles
returns-then-word-ge-SLOT-clause-settles c =
    let v = view c.args.pass.now in
    let u = view c.follow-word.new.pass in
    let n = c.follow-word.result in
    let f : IsFollowed c.args.span c.args.at v n u =
    is_followed c.args.span c.args.at v n u c.follow-word.ensures.follows in
    settle_held c.args.pointers.now c.args.holds.now c.args.place c.args.span c.args.at n v u c.requires.can
    c.requires.place f
    c.in_ok-met.met c.hold.new.holds c.in_ok-held.held (view c.hold.new.pass) c.in_ok-met.ensures.met
    c.in_ok-held.ensures.holds

pub returns-in_err-slot-clause-settles : goal.returns-in_err-slot-clause-settles
returns-in_err-slot-clause-settles c =
    let p = err_from_is_err_and c.from_residual-in_err-slot.result c.from_residual-in_err-slot.ensures.1 in
    let v = view c.args.pass.now in
    let u = view c.follow-word.new.pass in
    let n = c.follow-word.result in
    let f : IsFollowed c.args.span c.args.at v n u =
    is_followed c.args.span c.args.at v n u c.follow-word.ensures.follows in
    rw (p.1, p.2)
    (settle_bare c.args.pointers.now c.args.holds.now c.args.place c.args.span c.args.at n v u c.requires.can
    c.requires.place f
    c.in_ok-met.met c.install_copy.new.holds c.in_err-slot.field-0.0
    (view c.install_copy.new.pass) c.in_ok-met.ensures.met
    c.in_err-slot.ensures.installs)

pub returns-clause-settles : goal.returns-clause-settles
returns-clause-settles c =
    let v = view c.args.pass.now in
    let u = view c.follow-word.new.pass in
    let n = c.follow-word.result in
    let f : IsFollowed c.args.span c.args.at v n u =
    is_followed c.args.span c.args.at v n u c.follow-word.ensures.follows in
    settle_put c.args.pointers.now c.args.holds.now c.args.place c.args.span c.args.at n v u c.requires.can
    c.requires.place f
    c.in_ok-met.met c.install_copy.new.holds c.in_ok-slot.slot (view c.install_copy.new.pass) c.in_ok-met.ensures.met
    c.in_ok-slot.ensures.installs
