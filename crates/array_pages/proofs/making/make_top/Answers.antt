use Rattle.std.proofs.Common.{◌≡◌, inr, ◌+◌, ◌*◌, ◌/◌, ◌<◌, true, false, length, sym, ap, ◌∙◌, subst, refl, arith}
use Rattle.std.specs.List.{Contains}
use Rattle.std.proofs.lemmas.Result.{err_from_is_err_and}
use Rattle.homes.specs.declared.places.Span.{Span}
use Rattle.engine_pages.specs.declared.layout.Layout.{Layout}
use Rattle.engine_pages.specs.Layout.{page_at, words_of}
use Rattle.engine_pages.specs.Pages.{is_array}
use Rattle.engine_pages.specs.Passes.{view}
use Rattle.engine_pages.specs.Pointers.{IsArrayPointerAt}
use Rattle.array_pages.specs.Spans.{keys_above}
use Rattle.array_pages.specs.Steps.{CanCopy}
use Rattle.array_pages.specs.Walks.{HasWalked}
use Rattle.array_pages.proofs.FindLaws.{fits_walked}
use Rattle.array_pages.proofs.MakeLaws.{makes_inner, makes_less, makes_moved, makes_none}
use Rattle.array_pages.proofs.SpanLaws.{child_pointer, child_top, low_middle}
use Rattle.array_pages.proofs.SpanLaws.{middle_on, whole_middle}
use Rattle.array_pages.proofs.SpanLaws.{over_middle, page_word, part_middle}
use Rattle.array_pages.proofs.SpanLaws.{top_is}
use Rattle.array_pages.proofs.WalkLaws.{layout_stays, place_stays}
use Rattle.array_pages.proofs.WalkLaws.{led_over}
use Rattle.array_pages.proofs.WalkLaws.{walked_then}
use Rattle.array_pages.proofs.WalkLaws.{led_then, over_keys, ways_to, ways_to_then}
use Rattle.array_pages.proofs.making.make_top.Goals as goal

pub settle-requires-clause-place : goal.settle-requires-clause-place
settle-requires-clause-place c =
    let v = view c.args.pass.now in
    let span = c.span_from-span.result in
    let keys : Span = keys_above c.args.key 2 0 in
    let same : span ≡ keys = c.span_from-span.ensures in
    let here : IsArrayPointerAt v c.args.place span c.args.at =
    subst (λ (s : Span). IsArrayPointerAt v c.args.place s c.args.at) (sym same) c.requires.place in
    here

pub settle-requires-clause-array : goal.settle-requires-clause-array
settle-requires-clause-array c =
    let v = view c.args.pass.now in
    let span = c.span_from-span.result in
    let keys : Span = keys_above c.args.key 2 0 in
    let same : span ≡ keys = c.span_from-span.ensures in
    let here : IsArrayPointerAt v c.args.place span c.args.at =
    subst (λ (s : Span). IsArrayPointerAt v c.args.place s c.args.at) (sym same) c.requires.place in
    subst (λ (s : Span). is_array v.layout.decls s.storage ≡ true) (sym same) c.requires.fits.array

pub settle-requires-clause-kind : goal.settle-requires-clause-kind
settle-requires-clause-kind c =
    let v = view c.args.pass.now in
    let span = c.span_from-span.result in
    let keys : Span = keys_above c.args.key 2 0 in
    let same : span ≡ keys = c.span_from-span.ensures in
    let here : IsArrayPointerAt v c.args.place span c.args.at =
    subst (λ (s : Span). IsArrayPointerAt v c.args.place s c.args.at) (sym same) c.requires.place in
    subst (CanCopy false) (sym same) (inr refl)

pub returns-in_err-settled-clause-makes : goal.returns-in_err-settled-clause-makes
returns-in_err-settled-clause-makes c =
    let p = err_from_is_err_and c.from_residual.result c.from_residual.ensures.1 in
    let v = view c.args.pass.now in
    let span = c.span_from-span.result in
    let keys : Span = keys_above c.args.key 2 0 in
    let same : span ≡ keys = c.span_from-span.ensures in
    let here : IsArrayPointerAt v c.args.place span c.args.at =
    subst (λ (s : Span). IsArrayPointerAt v c.args.place s c.args.at) (sym same) c.requires.place in
    rw (p.1, p.2)
    (makes_none (3 * (v.layout.slots + 135)) (length c.args.holds.now + 1)
    (length c.args.holds.now + 3) c.args.key c.args.pointers.now c.settle.new.holds span c.args.at
    c.in_err-settled.field-0.0 v
    (view c.settle.new.pass)
    (let one = c.in_err-settled.ensures.settles.most in omega (arith, one)) (omega arith)
    (record {
      over = over_keys c.args.key 0 131071 span same c.requires.over.from
          (let to = c.requires.over.to in omega (arith, to));
      on = c.requires.on;
    })
    c.in_err-settled.ensures.settles)

pub word_at-next-requires-clause-slot : goal.word_at-next-requires-clause-slot
word_at-next-requires-clause-slot c =
    let v = view c.args.pass.now in
    let span = c.span_from-span.result in
    let keys : Span = keys_above c.args.key 2 0 in
    let same : span ≡ keys = c.span_from-span.ensures in
    let here : IsArrayPointerAt v c.args.place span c.args.at =
    subst (λ (s : Span). IsArrayPointerAt v c.args.place s c.args.at) (sym same) c.requires.place in
    let u = view c.settle.new.pass in
    let h = c.in_ok-settled.ensures.settles in
    subst (λ (l : Layout). c.in_ok-settled.settled.slot < l.slots) c.settle.ensures.of.layout h.settled.there

pub word_at-next-requires-clause-index : goal.word_at-next-requires-clause-index
word_at-next-requires-clause-index c =
    part_middle c.args.key c.requires.over

pub make_middle-requires-clause-can : goal.make_middle-requires-clause-can
make_middle-requires-clause-can c =
    let v = view c.args.pass.now in
    let span = c.span_from-span.result in
    let keys : Span = keys_above c.args.key 2 0 in
    let same : span ≡ keys = c.span_from-span.ensures in
    let here : IsArrayPointerAt v c.args.place span c.args.at =
    subst (λ (s : Span). IsArrayPointerAt v c.args.place s c.args.at) (sym same) c.requires.place in
    let u = view c.settle.new.pass in
    let h = c.in_ok-settled.ensures.settles in
    h.can

pub make_middle-requires-clause-fits : goal.make_middle-requires-clause-fits
make_middle-requires-clause-fits c =
    let v = view c.args.pass.now in
    let span = c.span_from-span.result in
    let keys : Span = keys_above c.args.key 2 0 in
    let same : span ≡ keys = c.span_from-span.ensures in
    let here : IsArrayPointerAt v c.args.place span c.args.at =
    subst (λ (s : Span). IsArrayPointerAt v c.args.place s c.args.at) (sym same) c.requires.place in
    let u = view c.settle.new.pass in
    let h = c.in_ok-settled.ensures.settles in
    fits_walked c.args.key v u h.walked c.requires.fits

pub make_middle-requires-clause-place : goal.make_middle-requires-clause-place
make_middle-requires-clause-place c =
    let v = view c.args.pass.now in
    let span = c.span_from-span.result in
    let keys : Span = keys_above c.args.key 2 0 in
    let same : span ≡ keys = c.span_from-span.ensures in
    let here : IsArrayPointerAt v c.args.place span c.args.at =
    subst (λ (s : Span). IsArrayPointerAt v c.args.place s c.args.at) (sym same) c.requires.place in
    let u = view c.settle.new.pass in
    let h = c.in_ok-settled.ensures.settles in
    let part = c.args.key.key / 2048 in
    let t = c.in_ok-settled.settled.slot in
    let next : c.word_at-next.result ≡ page_at u.layout.slots t part =
    c.word_at-next.ensures ∙ ap (λ (l : Layout). page_at l.slots t part) (sym c.settle.ensures.of.layout) in
    child_pointer u keys (keys_above c.args.key 1 (part * 2048)) t part c.word_at-next.result
    (subst (λ (s : Span). Contains u.ways (record { slot = t; span = s })) same h.settled.way)
    (fits_walked c.args.key v u h.walked c.requires.fits).array (top_is c.args.key 0)
    (part_middle c.args.key c.requires.over) (child_top c.args.key part) next

pub make_middle-requires-clause-word : goal.make_middle-requires-clause-word
make_middle-requires-clause-word c =
    let v = view c.args.pass.now in
    let span = c.span_from-span.result in
    let keys : Span = keys_above c.args.key 2 0 in
    let same : span ≡ keys = c.span_from-span.ensures in
    let here : IsArrayPointerAt v c.args.place span c.args.at =
    subst (λ (s : Span). IsArrayPointerAt v c.args.place s c.args.at) (sym same) c.requires.place in
    let u = view c.settle.new.pass in
    let h = c.in_ok-settled.ensures.settles in
    let part = c.args.key.key / 2048 in
    let t = c.in_ok-settled.settled.slot in
    let next : c.word_at-next.result ≡ page_at u.layout.slots t part =
    c.word_at-next.ensures ∙ ap (λ (l : Layout). page_at l.slots t part) (sym c.settle.ensures.of.layout) in
    subst (λ i. i < words_of u.layout) (sym next)
    (page_word u.layout t part h.settled.there (part_middle c.args.key c.requires.over))

pub make_middle-requires-clause-over : goal.make_middle-requires-clause-over
make_middle-requires-clause-over c =
    over_middle c.args.key c.requires.over

pub make_middle-requires-clause-low : goal.make_middle-requires-clause-low
make_middle-requires-clause-low c =
    low_middle c.args.key c.requires.over

pub returns-in_err-record-clause-makes : goal.returns-in_err-record-clause-makes
returns-in_err-record-clause-makes c =
    let p = err_from_is_err_and c.from_residual-in_err-record.result c.from_residual-in_err-record.ensures.1 in
    let v = view c.args.pass.now in
    let span = c.span_from-span.result in
    let keys : Span = keys_above c.args.key 2 0 in
    let same : span ≡ keys = c.span_from-span.ensures in
    let here : IsArrayPointerAt v c.args.place span c.args.at =
    subst (λ (s : Span). IsArrayPointerAt v c.args.place s c.args.at) (sym same) c.requires.place in
    let u = view c.settle.new.pass in
    let h = c.in_ok-settled.ensures.settles in
    rw (p.1, p.2)
    (makes_less (2 * (u.layout.slots + 135)) (3 * (v.layout.slots + 135)) (length c.args.holds.now + 1)
    (length c.settle.new.holds + 2) (length c.args.holds.now + 3) c.args.key c.args.pointers.now c.settle.new.holds
    c.make_middle.new.holds span c.args.at c.in_ok-settled.settled
    c.in_err-record.field-0.0 v u (view c.make_middle.new.pass)
    (let one = h.most in let two = c.in_err-record.ensures.makes.most in
    let slots = ap (λ (y : Layout). y.slots) (layout_stays v u h.walked) in omega (arith, one, two, slots))
    (let first = h.grows in omega (arith, first))
    (over_keys c.args.key 0 131071 span same c.requires.over.from
    (let to = c.requires.over.to in omega (arith, to)))
    h c.in_err-record.ensures.makes)

pub check_moved-requires-clause-active : goal.check_moved-requires-clause-active
check_moved-requires-clause-active c =
    let v = view c.args.pass.now in
    let span = c.span_from-span.result in
    let keys : Span = keys_above c.args.key 2 0 in
    let same : span ≡ keys = c.span_from-span.ensures in
    let here : IsArrayPointerAt v c.args.place span c.args.at =
    subst (λ (s : Span). IsArrayPointerAt v c.args.place s c.args.at) (sym same) c.requires.place in
    let u = view c.settle.new.pass in
    let h = c.in_ok-settled.ensures.settles in
    let t = view c.make_middle.new.pass in
    let m = c.in_ok-record.ensures.makes in
    let walk : HasWalked v t = walked_then v u t h.walked m.walked in
    m.can.walks.active

pub check_moved-requires-clause-place : goal.check_moved-requires-clause-place
check_moved-requires-clause-place c =
    let v = view c.args.pass.now in
    let span = c.span_from-span.result in
    let keys : Span = keys_above c.args.key 2 0 in
    let same : span ≡ keys = c.span_from-span.ensures in
    let here : IsArrayPointerAt v c.args.place span c.args.at =
    subst (λ (s : Span). IsArrayPointerAt v c.args.place s c.args.at) (sym same) c.requires.place in
    let u = view c.settle.new.pass in
    let h = c.in_ok-settled.ensures.settles in
    let t = view c.make_middle.new.pass in
    let m = c.in_ok-record.ensures.makes in
    let walk : HasWalked v t = walked_then v u t h.walked m.walked in
    place_stays v t c.args.place span c.args.at walk here

pub check_moved-requires-clause-word : goal.check_moved-requires-clause-word
check_moved-requires-clause-word c =
    let v = view c.args.pass.now in
    let span = c.span_from-span.result in
    let keys : Span = keys_above c.args.key 2 0 in
    let same : span ≡ keys = c.span_from-span.ensures in
    let here : IsArrayPointerAt v c.args.place span c.args.at =
    subst (λ (s : Span). IsArrayPointerAt v c.args.place s c.args.at) (sym same) c.requires.place in
    let u = view c.settle.new.pass in
    let h = c.in_ok-settled.ensures.settles in
    let t = view c.make_middle.new.pass in
    let m = c.in_ok-record.ensures.makes in
    let walk : HasWalked v t = walked_then v u t h.walked m.walked in
    subst (λ (y : Layout). c.args.at < words_of y) (sym (layout_stays v t walk)) c.requires.word

pub returns-in_err-check_moved-clause-makes : goal.returns-in_err-check_moved-clause-makes
returns-in_err-check_moved-clause-makes c =
    let p = err_from_is_err_and c.from_residual-in_err-check_moved.result c.from_residual-in_err-check_moved.ensures.1
    in
    let v = view c.args.pass.now in
    let span = c.span_from-span.result in
    let keys : Span = keys_above c.args.key 2 0 in
    let same : span ≡ keys = c.span_from-span.ensures in
    let here : IsArrayPointerAt v c.args.place span c.args.at =
    subst (λ (s : Span). IsArrayPointerAt v c.args.place s c.args.at) (sym same) c.requires.place in
    let u = view c.settle.new.pass in
    let h = c.in_ok-settled.ensures.settles in
    let t = view c.make_middle.new.pass in
    let m = c.in_ok-record.ensures.makes in
    let walk : HasWalked v t = walked_then v u t h.walked m.walked in
    rw (p.1, p.2)
    (makes_moved (3 * (v.layout.slots + 135)) (length c.args.holds.now + 3) c.args.key c.args.pointers.now
    c.make_middle.new.holds span c.args.at c.in_ok-settled.settled.moved
    c.in_err-check_moved.field-0.0 v t (view c.check_moved.new.pass)
    (let one = h.most in let two = m.most in let three = c.in_err-check_moved.ensures.checks.most in
    let slots = ap (λ (y : Layout). y.slots) (layout_stays v u h.walked) in omega (arith, one, two, three, slots))
    (let first = h.grows in let next = m.grows in omega (arith, first, next))
    (record {
      over = over_keys c.args.key 0 131071 span same c.requires.over.from
          (let to = c.requires.over.to in omega (arith, to));
      on = c.requires.on;
    })
    walk (m.kept ∙ h.kept) (λ a. m.words a ∙ h.words a)
    (ways_to_then c.args.key v u t (ways_to c.args.key span v u
    (over_keys c.args.key 0 131071 span same c.requires.over.from
    (let to = c.requires.over.to in omega (arith, to)))
    h.only) m.only)
    (led_then c.args.key v u t m.walked (led_over c.args.key span v u
    (over_keys c.args.key 0 131071 span same c.requires.over.from
    (let to = c.requires.over.to in omega (arith, to))) h.led) m.led) m.can
    c.in_err-check_moved.ensures.checks)

pub returns-clause-makes : goal.returns-clause-makes
returns-clause-makes c =
    let v = view c.args.pass.now in
    let span = c.span_from-span.result in
    let keys : Span = keys_above c.args.key 2 0 in
    let same : span ≡ keys = c.span_from-span.ensures in
    let here : IsArrayPointerAt v c.args.place span c.args.at =
    subst (λ (s : Span). IsArrayPointerAt v c.args.place s c.args.at) (sym same) c.requires.place in
    let u = view c.settle.new.pass in
    let h = c.in_ok-settled.ensures.settles in
    let t = view c.make_middle.new.pass in
    let m = c.in_ok-record.ensures.makes in
    let walk : HasWalked v t = walked_then v u t h.walked m.walked in
    makes_inner (2 * (u.layout.slots + 135)) (3 * (v.layout.slots + 135)) (length c.args.holds.now + 1)
    (length c.settle.new.holds + 2) (length c.args.holds.now + 3) c.args.key c.args.pointers.now c.settle.new.holds
    c.make_middle.new.holds c.args.place span c.args.at
    c.in_ok-record.record c.in_ok-settled.settled v u t (view c.check_moved.new.pass)
    (let one = h.most in let two = m.most in let three = c.in_ok-check_moved.ensures.checks.most in
    let slots = ap (λ (y : Layout). y.slots) (layout_stays v u h.walked) in omega (arith, one, two, three, slots))
    (let first = h.grows in omega (arith, first))
    (over_keys c.args.key 0 131071 span same c.requires.over.from
    (let to = c.requires.over.to in omega (arith, to)))
    here h m
    c.in_ok-check_moved.ensures.checks

pub make_middle-requires-clause-on : goal.make_middle-requires-clause-on
make_middle-requires-clause-on c =
    let v = view c.args.pass.now in
    let span = c.span_from-span.result in
    let keys : Span = keys_above c.args.key 2 0 in
    let same : span ≡ keys = c.span_from-span.ensures in
    let u = view c.settle.new.pass in
    let h = c.in_ok-settled.ensures.settles in
    let part = c.args.key.key / 2048 in
    let t = c.in_ok-settled.settled.slot in
    let next : c.word_at-next.result ≡ page_at u.layout.slots t part =
    c.word_at-next.ensures ∙ ap (λ (l : Layout). page_at l.slots t part) (sym c.settle.ensures.of.layout) in
    middle_on u.layout c.args.key t c.word_at-next.result h.settled.there next

pub make_middle-requires-clause-whole : goal.make_middle-requires-clause-whole
make_middle-requires-clause-whole c = whole_middle c.args.key
