use Rattle.std.proofs.Common.{◌≡◌, ◌+◌, true, length, sym, subst, arith}
use Rattle.std.proofs.lemmas.Result.{err_from_is_err_and}
use Rattle.homes.specs.declared.places.Span.{Span}
use Rattle.engine_pages.specs.Pages.{is_array}
use Rattle.engine_pages.specs.Passes.{view}
use Rattle.engine_pages.specs.Pointers.{IsArrayPointerAt}
use Rattle.array_pages.specs.declared.walk.Reached.TheVariants as ends
use Rattle.array_pages.specs.Spans.{keys_above}
use Rattle.array_pages.proofs.SpanLaws.{over_in}
use Rattle.array_pages.proofs.FindLaws.{finds_below, finds_none, finds_read, fits_walked, looks_below}
use Rattle.array_pages.proofs.FindLaws.{over_span, reached_end}
use Rattle.array_pages.proofs.PageLaws.{found_deep}
use Rattle.array_pages.proofs.WalkLaws.{over_keys, ways_to}
use Rattle.array_pages.proofs.WalkLaws.{led_over}
use Rattle.array_pages.proofs.finding.find_in_leaf.Goals as goal

pub reach-requires-clause-place : goal.reach-requires-clause-place
reach-requires-clause-place c =
    subst (λ (s : Span). IsArrayPointerAt (view c.args.pass.now) c.args.place s c.args.at) (sym c.span_from-span.ensures)
    c.requires.place

pub reach-requires-clause-array : goal.reach-requires-clause-array
reach-requires-clause-array c =
    subst (λ (s : Span). is_array (view c.args.pass.now).layout.decls s.storage ≡ true) (sym c.span_from-span.ensures)
    c.requires.fits.array

pub read_record-requires-clause-active : goal.read_record-requires-clause-active
read_record-requires-clause-active c = c.in_ok-reached.ensures.reaches.can.active

pub read_record-requires-clause-rest : goal.read_record-requires-clause-rest
read_record-requires-clause-rest c = c.in_ok-reached.ensures.reaches.can.rest

pub read_record-requires-clause-fits : goal.read_record-requires-clause-fits
read_record-requires-clause-fits c =
    fits_walked c.args.key (view c.args.pass.now) (view c.reach.new.pass) c.in_ok-reached.ensures.reaches.walked
    c.requires.fits

pub read_record-requires-clause-way : goal.read_record-requires-clause-way
read_record-requires-clause-way c =
    (reached_end (length c.args.holds.now + 1) c.args.pointers.now c.reach.new.holds c.args.place
    c.span_from-span.result (keys_above c.args.key 0 c.args.low)
    c.args.at c.in_ok-reached.reached (ends.Slot c.in-Slot.slot) (view c.args.pass.now) (view c.reach.new.pass)
    c.span_from-span.ensures c.in-Slot.is c.in_ok-reached.ensures.reaches).reached.0

pub read_record-requires-clause-there : goal.read_record-requires-clause-there
read_record-requires-clause-there c =
    (reached_end (length c.args.holds.now + 1) c.args.pointers.now c.reach.new.holds c.args.place
    c.span_from-span.result (keys_above c.args.key 0 c.args.low)
    c.args.at c.in_ok-reached.reached (ends.Slot c.in-Slot.slot) (view c.args.pass.now) (view c.reach.new.pass)
    c.span_from-span.ensures c.in-Slot.is c.in_ok-reached.ensures.reaches).reached.1

pub returns-in-Slot-clause-finds : goal.returns-in-Slot-clause-finds
returns-in-Slot-clause-finds c =
    let v = view c.args.pass.now in
    let u = view c.reach.new.pass in
    let h = reached_end (length c.args.holds.now + 1) c.args.pointers.now c.reach.new.holds c.args.place
    c.span_from-span.result
    (keys_above c.args.key 0 c.args.low) c.args.at c.in_ok-reached.reached (ends.Slot c.in-Slot.slot) v u
    c.span_from-span.ensures c.in-Slot.is c.in_ok-reached.ensures.reaches in
    finds_read 6 (length c.args.holds.now + 1) c.args.key c.args.pointers.now c.reach.new.holds c.read_record.result v u
    (view c.read_record.new.pass)
    (let one = h.most in let two = c.read_record.ensures.reads.most in omega (arith, one, two))
    h.grows h.walked h.can h.others h.keeps h.reached.2 h.reached.3
    (ways_to c.args.key (keys_above c.args.key 0 c.args.low) v u
    (over_span c.args.key c.args.low (c.args.low + 31) c.requires.over.from
    (let to = c.requires.over.to in omega (arith, to))) h.only)
    (led_over c.args.key (keys_above c.args.key 0 c.args.low) v u (over_in c.args.key 0 c.args.low c.requires.over) h.led)
    c.read_record.ensures.reads

pub in_leaf-number-requires-clause-can : goal.in_leaf-number-requires-clause-can
in_leaf-number-requires-clause-can c =
    let v = view c.args.pass.now in
    let u = view c.reach.new.pass in
    let h = reached_end (length c.args.holds.now + 1) c.args.pointers.now c.reach.new.holds c.args.place
    c.span_from-span.result
    (keys_above c.args.key 0 c.args.low) c.args.at c.in_ok-reached.reached (ends.Page c.in-Page.page) v u
    c.span_from-span.ensures c.in-Page.is c.in_ok-reached.ensures.reaches in
    looks_below c.reach.new.holds c.args.place (keys_above c.args.key 0 c.args.low) c.args.at c.in-Page.page v u h.can
    h.reached.0

pub in_leaf-number-requires-clause-there : goal.in_leaf-number-requires-clause-there
in_leaf-number-requires-clause-there c =
    let v = view c.args.pass.now in
    let u = view c.reach.new.pass in
    let h = reached_end (length c.args.holds.now + 1) c.args.pointers.now c.reach.new.holds c.args.place
    c.span_from-span.result
    (keys_above c.args.key 0 c.args.low) c.args.at c.in_ok-reached.reached (ends.Page c.in-Page.page) v u
    c.span_from-span.ensures c.in-Page.is c.in_ok-reached.ensures.reaches in h.reached.0.there

pub returns-in-Page-clause-finds : goal.returns-in-Page-clause-finds
returns-in-Page-clause-finds c =
    let v = view c.args.pass.now in
    let u = view c.reach.new.pass in
    let h = reached_end (length c.args.holds.now + 1) c.args.pointers.now c.reach.new.holds c.args.place
    c.span_from-span.result
    (keys_above c.args.key 0 c.args.low) c.args.at c.in_ok-reached.reached (ends.Page c.in-Page.page) v u
    c.span_from-span.ensures c.in-Page.is c.in_ok-reached.ensures.reaches in
    finds_below 6 (length c.args.holds.now + 1) (length c.args.holds.now + 1) c.args.key c.args.pointers.now
    c.reach.new.holds c.args.place (keys_above c.args.key 0 c.args.low) c.args.at
    c.in-Page.page c.in_leaf-number.result.0 c.in_leaf-number.result.1 c.found_below.result v u
    (view c.in_leaf-number.new.pass)
    (let one = h.most in let two = c.in_leaf-number.ensures.most in omega (arith, one, two))
    (omega arith) c.requires.place c.requires.word h c.in_leaf-number.ensures.glances
    (record { over = over_in c.args.key 0 c.args.low c.requires.over; on = c.requires.on })
    (found_deep u.pages c.args.key.key c.in-Page.page c.args.low (c.args.low + 31) _
    (c.in_leaf-number.ensures.finds 31))
    c.found_below.ensures

pub returns-in_err-reached-clause-finds : goal.returns-in_err-reached-clause-finds
returns-in_err-reached-clause-finds c =
    let p = err_from_is_err_and c.from_residual.result c.from_residual.ensures.1 in
    rw (p.1, p.2)
    (finds_none 6 (length c.args.holds.now + 1) (length c.args.holds.now + 1) c.args.key c.args.pointers.now
    c.reach.new.holds c.args.place c.span_from-span.result c.args.at
    c.in_err-reached.field-0.0 (view c.args.pass.now) (view c.reach.new.pass)
    (let one = c.in_err-reached.ensures.reaches.most in omega (arith, one)) (omega arith)
    (record {
      over = over_keys c.args.key c.args.low (c.args.low + 31) c.span_from-span.result c.span_from-span.ensures
          c.requires.over.from
          (let to = c.requires.over.to in omega (arith, to));
      on = c.requires.on;
    })
    c.in_err-reached.ensures.reaches)
