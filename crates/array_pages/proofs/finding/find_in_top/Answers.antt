use Rattle.std.proofs.Common.{◌≡◌, ◌+◌, ◌*◌, ◌/◌, ◌<◌, true, length, sym, ap, ◌∙◌, subst, arith, refl}
use Rattle.std.proofs.lemmas.Result.{err_from_is_err_and}
use Rattle.homes.specs.declared.places.Span.{Span}
use Rattle.engine_pages.specs.declared.layout.Layout.{Layout}
use Rattle.engine_pages.specs.Layout.{page_at, words_of}
use Rattle.engine_pages.specs.Pages.{is_array}
use Rattle.engine_pages.specs.Passes.{view}
use Rattle.engine_pages.specs.Pointers.{IsArrayPointerAt}
use Rattle.array_pages.specs.declared.walk.Reached.TheVariants as ends
use Rattle.array_pages.specs.Spans.{keys_above}
use Rattle.array_pages.proofs.FindLaws.{finds_back, finds_below, finds_none, fits_walked, looks_below}
use Rattle.array_pages.proofs.FindLaws.{over_span, reached_end, stands_here}
use Rattle.array_pages.proofs.RecordLaws.{even_middle}
use Rattle.array_pages.proofs.PageLaws.{found_deep}
use Rattle.array_pages.proofs.SpanLaws.{child_pointer, child_top, low_middle}
use Rattle.array_pages.proofs.SpanLaws.{middle_on, whole_middle}
use Rattle.array_pages.proofs.SpanLaws.{over_in}
use Rattle.array_pages.proofs.SpanLaws.{over_middle, page_word, part_middle}
use Rattle.array_pages.proofs.SpanLaws.{top_is}
use Rattle.array_pages.proofs.WalkLaws.{over_keys, ways_to}
use Rattle.array_pages.proofs.WalkLaws.{led_over}
use Rattle.array_pages.proofs.finding.find_in_top.Goals as goal

pub reach-requires-clause-place : goal.reach-requires-clause-place
reach-requires-clause-place c =
    subst (λ (s : Span). IsArrayPointerAt (view c.args.pass.now) c.args.place s c.args.at) (sym c.span_from-span.ensures)
    c.requires.place

pub reach-requires-clause-array : goal.reach-requires-clause-array
reach-requires-clause-array c =
    subst (λ (s : Span). is_array (view c.args.pass.now).layout.decls s.storage ≡ true) (sym c.span_from-span.ensures)
    c.requires.fits.array

pub word_at-next-requires-clause-slot : goal.word_at-next-requires-clause-slot
word_at-next-requires-clause-slot c =
    let v = view c.args.pass.now in
    let u = view c.reach.new.pass in
    let h = reached_end (length c.args.holds.now + 1) c.args.pointers.now c.reach.new.holds c.args.place
    c.span_from-span.result
    (keys_above c.args.key 2 0) c.args.at c.in_ok-reached.reached (ends.Slot c.in-Slot.slot) v u
    c.span_from-span.ensures c.in-Slot.is c.in_ok-reached.ensures.reaches in
    subst (λ (l : Layout). c.in-Slot.slot < l.slots) c.reach.ensures.of.layout h.reached.1

pub word_at-next-requires-clause-index : goal.word_at-next-requires-clause-index
word_at-next-requires-clause-index c = part_middle c.args.key c.requires.over

pub find_in_middle-requires-clause-can : goal.find_in_middle-requires-clause-can
find_in_middle-requires-clause-can c = c.in_ok-reached.ensures.reaches.can

pub find_in_middle-requires-clause-fits : goal.find_in_middle-requires-clause-fits
find_in_middle-requires-clause-fits c =
    fits_walked c.args.key (view c.args.pass.now) (view c.reach.new.pass) c.in_ok-reached.ensures.reaches.walked
    c.requires.fits

pub find_in_middle-requires-clause-place : goal.find_in_middle-requires-clause-place
find_in_middle-requires-clause-place c =
    let v = view c.args.pass.now in
    let u = view c.reach.new.pass in
    let h = reached_end (length c.args.holds.now + 1) c.args.pointers.now c.reach.new.holds c.args.place
    c.span_from-span.result
    (keys_above c.args.key 2 0) c.args.at c.in_ok-reached.reached (ends.Slot c.in-Slot.slot) v u
    c.span_from-span.ensures c.in-Slot.is c.in_ok-reached.ensures.reaches in
    let part = c.args.key.key / 2048 in
    child_pointer u (keys_above c.args.key 2 0) (keys_above c.args.key 1 (part * 2048)) c.in-Slot.slot part
    c.word_at-next.result h.reached.0 (fits_walked c.args.key v u h.walked c.requires.fits).array
    (top_is c.args.key 0) (part_middle c.args.key c.requires.over)
    (child_top c.args.key part)
    (c.word_at-next.ensures ∙ ap (λ (l : Layout). page_at l.slots c.in-Slot.slot part) (sym c.reach.ensures.of.layout))

pub find_in_middle-requires-clause-word : goal.find_in_middle-requires-clause-word
find_in_middle-requires-clause-word c =
    let v = view c.args.pass.now in
    let u = view c.reach.new.pass in
    let h = reached_end (length c.args.holds.now + 1) c.args.pointers.now c.reach.new.holds c.args.place
    c.span_from-span.result
    (keys_above c.args.key 2 0) c.args.at c.in_ok-reached.reached (ends.Slot c.in-Slot.slot) v u
    c.span_from-span.ensures c.in-Slot.is c.in_ok-reached.ensures.reaches in
    let part = c.args.key.key / 2048 in
    subst (λ i. i < words_of u.layout)
    (sym (c.word_at-next.ensures ∙ ap (λ (l : Layout). page_at l.slots c.in-Slot.slot part)
    (sym c.reach.ensures.of.layout)))
    (page_word u.layout c.in-Slot.slot part h.reached.1 (part_middle c.args.key c.requires.over))

pub find_in_middle-requires-clause-over : goal.find_in_middle-requires-clause-over
find_in_middle-requires-clause-over c = over_middle c.args.key c.requires.over

pub find_in_middle-requires-clause-low : goal.find_in_middle-requires-clause-low
find_in_middle-requires-clause-low c = low_middle c.args.key c.requires.over

pub returns-in-Slot-clause-finds : goal.returns-in-Slot-clause-finds
returns-in-Slot-clause-finds c =
    let v = view c.args.pass.now in
    let u = view c.reach.new.pass in
    let h = reached_end (length c.args.holds.now + 1) c.args.pointers.now c.reach.new.holds c.args.place
    c.span_from-span.result
    (keys_above c.args.key 2 0) c.args.at c.in_ok-reached.reached (ends.Slot c.in-Slot.slot) v u
    c.span_from-span.ensures c.in-Slot.is c.in_ok-reached.ensures.reaches in
    finds_back 9 12 (length c.reach.new.holds + 2) (length c.args.holds.now + 3) c.args.key c.args.pointers.now
    c.find_in_middle.new.holds c.find_in_middle.result v u
    (view c.find_in_middle.new.pass)
    (let one = h.most in let two = c.find_in_middle.ensures.finds.most in omega (arith, one, two))
    (let grows = h.grows in omega (arith, grows)) h.walked h.others h.keeps h.reached.2 h.reached.3
    (ways_to c.args.key (keys_above c.args.key 2 0) v u
    (over_span c.args.key 0 131071 c.requires.over.from (let to = c.requires.over.to in omega (arith, to))) h.only)
    (led_over c.args.key (keys_above c.args.key 2 0) v u (over_in c.args.key 2 0 c.requires.over) h.led)
    c.find_in_middle.ensures.finds

pub in_top-number-requires-clause-can : goal.in_top-number-requires-clause-can
in_top-number-requires-clause-can c =
    let v = view c.args.pass.now in
    let u = view c.reach.new.pass in
    let h = reached_end (length c.args.holds.now + 1) c.args.pointers.now c.reach.new.holds c.args.place
    c.span_from-span.result
    (keys_above c.args.key 2 0) c.args.at c.in_ok-reached.reached (ends.Page c.in-Page.page) v u
    c.span_from-span.ensures c.in-Page.is c.in_ok-reached.ensures.reaches in
    looks_below c.reach.new.holds c.args.place (keys_above c.args.key 2 0) c.args.at c.in-Page.page v u h.can
    h.reached.0

pub in_top-number-requires-clause-there : goal.in_top-number-requires-clause-there
in_top-number-requires-clause-there c =
    let v = view c.args.pass.now in
    let u = view c.reach.new.pass in
    let h = reached_end (length c.args.holds.now + 1) c.args.pointers.now c.reach.new.holds c.args.place
    c.span_from-span.result
    (keys_above c.args.key 2 0) c.args.at c.in_ok-reached.reached (ends.Page c.in-Page.page) v u
    c.span_from-span.ensures c.in-Page.is c.in_ok-reached.ensures.reaches in h.reached.0.there

pub in_top-number-requires-clause-stands : goal.in_top-number-requires-clause-stands
in_top-number-requires-clause-stands c =
    let v = view c.args.pass.now in
    let u = view c.reach.new.pass in
    let h = reached_end (length c.args.holds.now + 1) c.args.pointers.now c.reach.new.holds c.args.place
    c.span_from-span.result
    (keys_above c.args.key 2 0) c.args.at c.in_ok-reached.reached (ends.Page c.in-Page.page) v u
    c.span_from-span.ensures c.in-Page.is c.in_ok-reached.ensures.reaches in
    stands_here c.args.key c.args.place (keys_above c.args.key 2 0) c.args.at c.in-Page.page 2 29 0 v u
    c.reach.new.holds h.can (fits_walked c.args.key v u h.walked c.requires.fits) refl refl h.reached.0

pub returns-in-Page-clause-finds : goal.returns-in-Page-clause-finds
returns-in-Page-clause-finds c =
    let v = view c.args.pass.now in
    let u = view c.reach.new.pass in
    let h = reached_end (length c.args.holds.now + 1) c.args.pointers.now c.reach.new.holds c.args.place
    c.span_from-span.result
    (keys_above c.args.key 2 0) c.args.at c.in_ok-reached.reached (ends.Page c.in-Page.page) v u
    c.span_from-span.ensures c.in-Page.is c.in_ok-reached.ensures.reaches in
    finds_below 12 (length c.args.holds.now + 1) (length c.args.holds.now + 3) c.args.key c.args.pointers.now
    c.reach.new.holds c.args.place (keys_above c.args.key 2 0) c.args.at
    c.in-Page.page c.in_top-number.result.0 c.in_top-number.result.1 c.found_below.result v u
    (view c.in_top-number.new.pass)
    (let one = h.most in let two = c.in_top-number.ensures.most in omega (arith, one, two))
    (omega arith) c.requires.place c.requires.word h c.in_top-number.ensures.glances
    (record { over = over_in c.args.key 2 0 c.requires.over; on = c.requires.on })
    (found_deep u.pages c.args.key.key c.in-Page.page 0 131071 _ (c.in_top-number.ensures.finds 29))
    c.found_below.ensures

pub returns-in_err-reached-clause-finds : goal.returns-in_err-reached-clause-finds
returns-in_err-reached-clause-finds c =
    let p = err_from_is_err_and c.from_residual.result c.from_residual.ensures.1 in
    rw (p.1, p.2)
    (finds_none 12 (length c.args.holds.now + 1) (length c.args.holds.now + 3) c.args.key c.args.pointers.now
    c.reach.new.holds c.args.place c.span_from-span.result c.args.at
    c.in_err-reached.field-0.0 (view c.args.pass.now) (view c.reach.new.pass)
    (let one = c.in_err-reached.ensures.reaches.most in omega (arith, one)) (omega arith)
    (record {
      over = over_keys c.args.key 0 131071 c.span_from-span.result c.span_from-span.ensures c.requires.over.from
          (let to = c.requires.over.to in omega (arith, to));
      on = c.requires.on;
    })
    c.in_err-reached.ensures.reaches)

pub find_in_middle-requires-clause-even : goal.find_in_middle-requires-clause-even
find_in_middle-requires-clause-even c = even_middle c.args.key

pub find_in_middle-requires-clause-on : goal.find_in_middle-requires-clause-on
find_in_middle-requires-clause-on c =
    let v = view c.args.pass.now in
    let u = view c.reach.new.pass in
    let h = reached_end (length c.args.holds.now + 1) c.args.pointers.now c.reach.new.holds c.args.place
    c.span_from-span.result
    (keys_above c.args.key 2 0) c.args.at c.in_ok-reached.reached (ends.Slot c.in-Slot.slot) v u
    c.span_from-span.ensures c.in-Slot.is c.in_ok-reached.ensures.reaches in
    let part = c.args.key.key / 2048 in
    middle_on u.layout c.args.key c.in-Slot.slot c.word_at-next.result h.reached.1
    (c.word_at-next.ensures ∙ ap (λ (l : Layout). page_at l.slots c.in-Slot.slot part) (sym c.reach.ensures.of.layout))

pub find_in_middle-requires-clause-whole : goal.find_in_middle-requires-clause-whole
find_in_middle-requires-clause-whole c = whole_middle c.args.key
