use Rattle.std.proofs.Common.{◌+◌, ◌<◌, true≢false, eqb-true, length, sym, ap, ◌∙◌, subst}
use Rattle.std.specs.Prelude.{Err}
use Rattle.std.proofs.lemmas.Result.{err_from_is_err_and}
use Rattle.commit_core.specs.declared.seat.Seat.{Seat}
use Rattle.engine_pages.specs.declared.layout.Layout.{Layout}
use Rattle.engine_pages.specs.declared.view.RefusalCause.{RefusalCause}
use Rattle.engine_pages.specs.Layout.{words_of}
use Rattle.engine_pages.specs.Passes.{view}
use Rattle.array_pages.specs.Steps.{ReachesSo}
use Rattle.array_pages.proofs.ReachLaws.{leaves_memory, loaded_saw, reach_other, reach_page, reach_shut}
use Rattle.array_pages.proofs.ReachLaws.{reach_slot, reach_unheld, reach_wide, saw_followed, saw_kept}
use Rattle.array_pages.proofs.RecordLaws.{active_stays}
use Rattle.array_pages.proofs.WalkLaws.{below_full, can_after, layout_stays, place_stays}
use Rattle.array_pages.proofs.LoadedLaws.{IsLoaded, is_followed, led_to}
use Rattle.engine_pages.specs.Pointers.{any_pointer}
use Rattle.array_pages.proofs.walk.reach.Goals as goal

pub see_pointer-word-requires-clause-pass : goal.see_pointer-word-requires-clause-pass
see_pointer-word-requires-clause-pass c = (c.requires.can.active, c.requires.can.rest)

pub see_pointer-word-requires-clause-place : goal.see_pointer-word-requires-clause-place
see_pointer-word-requires-clause-place c =
    any_pointer (view c.args.pass.now) c.args.place c.args.span c.args.at c.requires.place

pub follow-later-requires-clause-pass : goal.follow-later-requires-clause-pass
follow-later-requires-clause-pass c =
    let v = view c.args.pass.now in
    let u = view c.see_pointer-word.new.pass in
    let l : IsLoaded c.args.span c.args.at v c.see_pointer-word.result u =
    loaded_saw c.args.place c.args.span c.args.at v c.see_pointer-word.result u c.requires.can.agree
    c.requires.can.trees c.see_pointer-word.ensures.sees in active_stays v u l.walked c.requires.can.active

pub follow-later-requires-clause-place : goal.follow-later-requires-clause-place
follow-later-requires-clause-place c =
    let v = view c.args.pass.now in
    let u = view c.see_pointer-word.new.pass in
    let l : IsLoaded c.args.span c.args.at v c.see_pointer-word.result u =
    loaded_saw c.args.place c.args.span c.args.at v c.see_pointer-word.result u c.requires.can.agree
    c.requires.can.trees c.see_pointer-word.ensures.sees in
    any_pointer u c.args.place c.args.span c.args.at
    (place_stays v u c.args.place c.args.span c.args.at l.walked c.requires.place)

pub follow-later-requires-clause-word : goal.follow-later-requires-clause-word
follow-later-requires-clause-word c =
    let v = view c.args.pass.now in
    let u = view c.see_pointer-word.new.pass in
    let l : IsLoaded c.args.span c.args.at v c.see_pointer-word.result u =
    loaded_saw c.args.place c.args.span c.args.at v c.see_pointer-word.result u c.requires.can.agree
    c.requires.can.trees c.see_pointer-word.ensures.sees in
    subst (λ (y : Layout). c.args.at < words_of y) (sym (layout_stays v u l.walked)) c.requires.word

pub hold-requires-clause-can : goal.hold-requires-clause-can
hold-requires-clause-can c =
    let v = view c.args.pass.now in
    let u = view c.see_pointer-word.new.pass in
    let l : IsLoaded c.args.span c.args.at v c.see_pointer-word.result u =
    loaded_saw c.args.place c.args.span c.args.at v c.see_pointer-word.result u c.requires.can.agree
    c.requires.can.trees c.see_pointer-word.ensures.sees in can_after c.args.holds.now v u l.walked l.grip l.agree l.trees c.requires.can

pub hold-requires-clause-place : goal.hold-requires-clause-place
hold-requires-clause-place c =
    let v = view c.args.pass.now in
    let u = view c.see_pointer-word.new.pass in
    let l : IsLoaded c.args.span c.args.at v c.see_pointer-word.result u =
    loaded_saw c.args.place c.args.span c.args.at v c.see_pointer-word.result u c.requires.can.agree
    c.requires.can.trees c.see_pointer-word.ensures.sees in place_stays v u c.args.place c.args.span c.args.at l.walked c.requires.place

pub hold-requires-clause-word : goal.hold-requires-clause-word
hold-requires-clause-word c =
    let v = view c.args.pass.now in
    let u = view c.see_pointer-word.new.pass in
    let l : IsLoaded c.args.span c.args.at v c.see_pointer-word.result u =
    loaded_saw c.args.place c.args.span c.args.at v c.see_pointer-word.result u c.requires.can.agree
    c.requires.can.trees c.see_pointer-word.ensures.sees in
    subst (λ (y : Layout). c.args.at < words_of y) (sym (layout_stays v u l.walked)) c.requires.word

pub hold-requires-clause-led : goal.hold-requires-clause-led
hold-requires-clause-led c =
    let v = view c.args.pass.now in
    let u = view c.see_pointer-word.new.pass in
    let l : IsLoaded c.args.span c.args.at v c.see_pointer-word.result u =
    loaded_saw c.args.place c.args.span c.args.at v c.see_pointer-word.result u c.requires.can.agree
    c.requires.can.trees c.see_pointer-word.ensures.sees in
    led_to c.args.span c.args.at v c.see_pointer-word.result u l c.if-word-ge-SLOT.true c.if-word-ge-SHUT.false

pub returns-then-word-ge-SHUT-clause-reaches : goal.returns-then-word-ge-SHUT-clause-reaches
returns-then-word-ge-SHUT-clause-reaches c =
    let v = view c.args.pass.now in
    let u = view c.see_pointer-word.new.pass in
    let w = view c.follow-later.new.pass in
    let n = c.see_pointer-word.result in
    let l : IsLoaded c.args.span c.args.at v n u =
    loaded_saw c.args.place c.args.span c.args.at v n u c.requires.can.agree
    c.requires.can.trees c.see_pointer-word.ensures.sees in
    subst (λ (r : RefusalCause). ReachesSo (length c.args.holds.now + 1) c.args.pointers.now c.args.holds.now
    c.args.place c.args.span c.args.at (Err r) v w)
    (sym c.conflict.ensures)
    (reach_shut c.args.pointers.now c.args.holds.now c.args.place c.args.span c.args.at n v u c.requires.can
    c.requires.place l
    c.in_ok-met.met c.follow-later.result w c.in_ok-met.ensures.met c.if-word-ge-SHUT.true
    (is_followed c.args.span c.args.at u c.follow-later.result w c.follow-later.ensures.follows))

pub returns-then-word-ge-SLOT-clause-reaches : goal.returns-then-word-ge-SLOT-clause-reaches
returns-then-word-ge-SLOT-clause-reaches c =
    let v = view c.args.pass.now in
    let u = view c.see_pointer-word.new.pass in
    let w = view c.hold.new.pass in
    let n = c.see_pointer-word.result in
    let f = saw_followed c.args.place c.args.span c.args.at v n u c.if-word-ge-SLOT.true c.see_pointer-word.ensures.sees
    in
    reach_slot c.args.pointers.now c.args.holds.now c.args.place c.args.span c.args.at n v u c.requires.can
    c.requires.place
    f.loaded c.in_ok-met.met c.hold.new.holds c.in_ok-slot.slot w c.in_ok-met.ensures.met
    (ap (λ (s : Seat). s.kept) f.seat) f.words c.in_ok-slot.ensures.holds

pub returns-then-met-clause-reaches : goal.returns-then-met-clause-reaches
returns-then-met-clause-reaches c =
    let v = view c.args.pass.now in
    let u = view c.see_pointer-word.new.pass in
    let n = c.see_pointer-word.result in
    let l : IsLoaded c.args.span c.args.at v n u =
    loaded_saw c.args.place c.args.span c.args.at v n u c.requires.can.agree
    c.requires.can.trees c.see_pointer-word.ensures.sees in
    reach_page c.args.pointers.now c.args.holds.now c.args.place c.args.span c.args.at n v u c.requires.can
    c.requires.place l
    c.in_ok-met.met c.in_ok-met.ensures.met (λ none. absurd (true≢false (sym c.if-met.true ∙ none)))
    (leaves_memory c.args.place c.args.span c.args.at v n u c.if-word-ge-SLOT.false c.requires.array
    (saw_kept c.args.place c.args.span c.args.at v n u c.if-word-ge-SLOT.false c.see_pointer-word.ensures.sees))

pub returns-then-is_full-clause-reaches : goal.returns-then-is_full-clause-reaches
returns-then-is_full-clause-reaches c =
    let v = view c.args.pass.now in
    let u = view c.see_pointer-word.new.pass in
    let n = c.see_pointer-word.result in
    let l : IsLoaded c.args.span c.args.at v n u =
    loaded_saw c.args.place c.args.span c.args.at v n u c.requires.can.agree
    c.requires.can.trees c.see_pointer-word.ensures.sees in
    reach_wide c.args.pointers.now c.args.holds.now c.args.place c.args.span c.args.at n v u c.requires.can
    c.requires.place l
    c.in_ok-met.met c.in_ok-met.ensures.met c.if-met.false c.if-word-ge-SLOT.false
    (eqb-true (length c.args.pointers.now) 128 (sym c.is_full.ensures.value ∙ c.if-is_full.true))

pub returns-clause-reaches : goal.returns-clause-reaches
returns-clause-reaches c =
    let v = view c.args.pass.now in
    let u = view c.see_pointer-word.new.pass in
    let n = c.see_pointer-word.result in
    let l : IsLoaded c.args.span c.args.at v n u =
    loaded_saw c.args.place c.args.span c.args.at v n u c.requires.can.agree
    c.requires.can.trees c.see_pointer-word.ensures.sees in
    reach_page c.args.pointers.now c.args.holds.now c.args.place c.args.span c.args.at n v u c.requires.can
    c.requires.place l
    c.in_ok-met.met c.in_ok-met.ensures.met
    (λ none. below_full (length c.args.pointers.now) c.is_full.ensures.bound
    (sym c.is_full.ensures.value ∙ c.if-is_full.false))
    (leaves_memory c.args.place c.args.span c.args.at v n u c.if-word-ge-SLOT.false c.requires.array
    (saw_kept c.args.place c.args.span c.args.at v n u c.if-word-ge-SLOT.false c.see_pointer-word.ensures.sees))

pub returns-in_err-met-clause-reaches : goal.returns-in_err-met-clause-reaches
returns-in_err-met-clause-reaches c =
    let p = err_from_is_err_and c.from_residual.result c.from_residual.ensures.1 in
    let v = view c.args.pass.now in
    let u = view c.see_pointer-word.new.pass in
    let n = c.see_pointer-word.result in
    let l : IsLoaded c.args.span c.args.at v n u =
    loaded_saw c.args.place c.args.span c.args.at v n u c.requires.can.agree
    c.requires.can.trees c.see_pointer-word.ensures.sees in
    rw (p.1, p.2)
    (reach_other c.args.pointers.now c.args.holds.now c.args.place c.args.span c.args.at n v u c.requires.can
    c.requires.place l
    c.in_err-met.field-0.0 c.in_err-met.ensures.other)

pub returns-in_err-slot-clause-reaches : goal.returns-in_err-slot-clause-reaches
returns-in_err-slot-clause-reaches c =
    let p = err_from_is_err_and c.from_residual-in_err-slot.result c.from_residual-in_err-slot.ensures.1 in
    let v = view c.args.pass.now in
    let u = view c.see_pointer-word.new.pass in
    let n = c.see_pointer-word.result in
    let l : IsLoaded c.args.span c.args.at v n u =
    loaded_saw c.args.place c.args.span c.args.at v n u c.requires.can.agree
    c.requires.can.trees c.see_pointer-word.ensures.sees in
    rw (p.1, p.2)
    (reach_unheld c.args.pointers.now c.args.holds.now c.args.place c.args.span c.args.at n v u c.requires.can
    c.requires.place l
    c.in_ok-met.met c.hold.new.holds c.in_err-slot.field-0.0 (view c.hold.new.pass) c.in_ok-met.ensures.met
    c.in_err-slot.ensures.holds)
