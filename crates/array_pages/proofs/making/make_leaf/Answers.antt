use Rattle.std.proofs.Common.{◌≡◌, ◌+◌, ◌-◌, ◌*◌, ◌<◌, true, length, sym, ap, ◌∙◌, subst, refl, arith}
use Rattle.std.specs.List.{Contains}
use Rattle.std.proofs.lemmas.Result.{err_from_is_err_and}
use Rattle.homes.specs.declared.places.Span.{Span}
use Rattle.engine_pages.specs.declared.layout.Layout.{Layout}
use Rattle.engine_pages.specs.Layout.{page_at, words_of}
use Rattle.engine_pages.specs.Pages.{is_array}
use Rattle.engine_pages.specs.Passes.{view}
use Rattle.engine_pages.specs.Pointers.{IsArrayPointerAt}
use Rattle.array_pages.specs.Making.{HasRecordAt}
use Rattle.array_pages.specs.Spans.{keys_above}
use Rattle.array_pages.specs.Steps.{CanCopy}
use Rattle.array_pages.proofs.MakeLaws.{makes_leaf, makes_moved, makes_none}
use Rattle.array_pages.proofs.RecordLaws.{index_of}
use Rattle.array_pages.proofs.SpanLaws.{record_at}
use Rattle.array_pages.proofs.WalkLaws.{layout_stays, place_stays}
use Rattle.array_pages.proofs.WalkLaws.{led_over}
use Rattle.array_pages.proofs.WalkLaws.{over_keys, ways_to}
use Rattle.array_pages.proofs.making.make_leaf.Goals as goal

pub settle-requires-clause-place : goal.settle-requires-clause-place
settle-requires-clause-place c =
    let v = view c.args.pass.now in
    let span = c.span_from-span.result in
    let keys : Span = keys_above c.args.key 0 c.args.low in
    let same : span ≡ keys = c.span_from-span.ensures in
    let here : IsArrayPointerAt v c.args.place span c.args.at =
    subst (λ (s : Span). IsArrayPointerAt v c.args.place s c.args.at) (sym same) c.requires.place in
    here

pub settle-requires-clause-array : goal.settle-requires-clause-array
settle-requires-clause-array c =
    let v = view c.args.pass.now in
    let span = c.span_from-span.result in
    let keys : Span = keys_above c.args.key 0 c.args.low in
    let same : span ≡ keys = c.span_from-span.ensures in
    let here : IsArrayPointerAt v c.args.place span c.args.at =
    subst (λ (s : Span). IsArrayPointerAt v c.args.place s c.args.at) (sym same) c.requires.place in
    subst (λ (s : Span). is_array v.layout.decls s.storage ≡ true) (sym same) c.requires.fits.array

pub settle-requires-clause-kind : goal.settle-requires-clause-kind
settle-requires-clause-kind c =
    let v = view c.args.pass.now in
    let span = c.span_from-span.result in
    let keys : Span = keys_above c.args.key 0 c.args.low in
    let same : span ≡ keys = c.span_from-span.ensures in
    let here : IsArrayPointerAt v c.args.place span c.args.at =
    subst (λ (s : Span). IsArrayPointerAt v c.args.place s c.args.at) (sym same) c.requires.place in
    subst (CanCopy true) (sym same) (refl)

pub returns-in_err-settled-clause-makes : goal.returns-in_err-settled-clause-makes
returns-in_err-settled-clause-makes c =
    let p = err_from_is_err_and c.from_residual.result c.from_residual.ensures.1 in
    let v = view c.args.pass.now in
    let span = c.span_from-span.result in
    let keys : Span = keys_above c.args.key 0 c.args.low in
    let same : span ≡ keys = c.span_from-span.ensures in
    let here : IsArrayPointerAt v c.args.place span c.args.at =
    subst (λ (s : Span). IsArrayPointerAt v c.args.place s c.args.at) (sym same) c.requires.place in
    rw (p.1, p.2)
    (makes_none (v.layout.slots + 135) (length c.args.holds.now + 1)
    (length c.args.holds.now + 1) c.args.key c.args.pointers.now c.settle.new.holds span c.args.at
    c.in_err-settled.field-0.0 v
    (view c.settle.new.pass)
    (let one = c.in_err-settled.ensures.settles.most in omega (arith, one)) (omega arith)
    (record {
      over = over_keys c.args.key c.args.low (c.args.low + 31) span same c.requires.over.from
          (let to = c.requires.over.to in omega (arith, to));
      on = c.requires.on;
    })
    c.in_err-settled.ensures.settles)

pub check_moved-requires-clause-active : goal.check_moved-requires-clause-active
check_moved-requires-clause-active c =
    let v = view c.args.pass.now in
    let span = c.span_from-span.result in
    let keys : Span = keys_above c.args.key 0 c.args.low in
    let same : span ≡ keys = c.span_from-span.ensures in
    let here : IsArrayPointerAt v c.args.place span c.args.at =
    subst (λ (s : Span). IsArrayPointerAt v c.args.place s c.args.at) (sym same) c.requires.place in
    let u = view c.settle.new.pass in
    let h = c.in_ok-settled.ensures.settles in
    h.can.walks.active

pub check_moved-requires-clause-place : goal.check_moved-requires-clause-place
check_moved-requires-clause-place c =
    let v = view c.args.pass.now in
    let span = c.span_from-span.result in
    let keys : Span = keys_above c.args.key 0 c.args.low in
    let same : span ≡ keys = c.span_from-span.ensures in
    let here : IsArrayPointerAt v c.args.place span c.args.at =
    subst (λ (s : Span). IsArrayPointerAt v c.args.place s c.args.at) (sym same) c.requires.place in
    let u = view c.settle.new.pass in
    let h = c.in_ok-settled.ensures.settles in
    place_stays v u c.args.place span c.args.at h.walked here

pub check_moved-requires-clause-word : goal.check_moved-requires-clause-word
check_moved-requires-clause-word c =
    let v = view c.args.pass.now in
    let span = c.span_from-span.result in
    let keys : Span = keys_above c.args.key 0 c.args.low in
    let same : span ≡ keys = c.span_from-span.ensures in
    let here : IsArrayPointerAt v c.args.place span c.args.at =
    subst (λ (s : Span). IsArrayPointerAt v c.args.place s c.args.at) (sym same) c.requires.place in
    let u = view c.settle.new.pass in
    let h = c.in_ok-settled.ensures.settles in
    subst (λ (y : Layout). c.args.at < words_of y) (sym (layout_stays v u h.walked)) c.requires.word

pub returns-in_err-check_moved-clause-makes : goal.returns-in_err-check_moved-clause-makes
returns-in_err-check_moved-clause-makes c =
    let p = err_from_is_err_and c.from_residual-in_err-check_moved.result c.from_residual-in_err-check_moved.ensures.1
    in
    let v = view c.args.pass.now in
    let span = c.span_from-span.result in
    let keys : Span = keys_above c.args.key 0 c.args.low in
    let same : span ≡ keys = c.span_from-span.ensures in
    let here : IsArrayPointerAt v c.args.place span c.args.at =
    subst (λ (s : Span). IsArrayPointerAt v c.args.place s c.args.at) (sym same) c.requires.place in
    let u = view c.settle.new.pass in
    let h = c.in_ok-settled.ensures.settles in
    rw (p.1, p.2)
    (makes_moved (v.layout.slots + 135) (length c.args.holds.now + 1) c.args.key c.args.pointers.now c.settle.new.holds
    span c.args.at c.in_ok-settled.settled.moved
    c.in_err-check_moved.field-0.0 v u (view c.check_moved.new.pass)
    (let one = h.most in let two = c.in_err-check_moved.ensures.checks.most in omega (arith, one, two)) h.grows
    (record {
      over = over_keys c.args.key c.args.low (c.args.low + 31) span same c.requires.over.from
          (let to = c.requires.over.to in omega (arith, to));
      on = c.requires.on;
    })
    h.walked h.kept h.words (ways_to c.args.key span v u
    (over_keys c.args.key c.args.low (c.args.low + 31) span same c.requires.over.from
    (let to = c.requires.over.to in omega (arith, to)))
    h.only)
    (led_over c.args.key span v u (over_keys c.args.key c.args.low (c.args.low + 31) span same c.requires.over.from
    (let to = c.requires.over.to in omega (arith, to))) h.led) h.can
    c.in_err-check_moved.ensures.checks)

pub word_at-requires-clause-slot : goal.word_at-requires-clause-slot
word_at-requires-clause-slot c =
    let v = view c.args.pass.now in
    let span = c.span_from-span.result in
    let keys : Span = keys_above c.args.key 0 c.args.low in
    let same : span ≡ keys = c.span_from-span.ensures in
    let here : IsArrayPointerAt v c.args.place span c.args.at =
    subst (λ (s : Span). IsArrayPointerAt v c.args.place s c.args.at) (sym same) c.requires.place in
    let u = view c.settle.new.pass in
    let h = c.in_ok-settled.ensures.settles in
    subst (λ (l : Layout). c.in_ok-settled.settled.slot < l.slots) c.settle.ensures.of.layout h.settled.there

pub returns-clause-makes : goal.returns-clause-makes
returns-clause-makes c =
    let v = view c.args.pass.now in
    let span = c.span_from-span.result in
    let keys : Span = keys_above c.args.key 0 c.args.low in
    let same : span ≡ keys = c.span_from-span.ensures in
    let here : IsArrayPointerAt v c.args.place span c.args.at =
    subst (λ (s : Span). IsArrayPointerAt v c.args.place s c.args.at) (sym same) c.requires.place in
    let u = view c.settle.new.pass in
    let h = c.in_ok-settled.ensures.settles in
    let w = view c.check_moved.new.pass in
    let k = c.in_ok-check_moved.ensures.checks in
    let t = c.in_ok-settled.settled.slot in
    let layout = layout_stays u w k.walked in
    let first = layout_stays v u h.walked in
    let record_word : c.word_at.result ≡ page_at w.layout.slots t (2 * (c.args.key.key - c.args.low)) =
    c.word_at.ensures
    ∙ ap (λ (l : Layout). page_at l.slots t (2 * (c.args.key.key - c.args.low)))
    (sym c.check_moved.ensures.of.layout) in
    let found : HasRecordAt c.args.key c.word_at.result w = record {
      spot = record { slot = t; index = c.args.key.key - c.args.low };
      place = record_at w c.args.key t c.args.low c.word_at.result
          (subst (λ (s : Span). Contains w.ways (record { slot = t; span = s })) same
          (k.walked.ways (record { slot = t; span = span }) h.settled.way))
          (subst (λ (y : Layout). t < y.slots) (sym layout) h.settled.there)
          (subst (λ (y : Layout). is_array y.decls c.args.key.storage ≡ true)
          (sym (layout ∙ first)) c.requires.fits.array)
          c.requires.over record_word;
      index = index_of c.args.key c.args.low c.requires.even c.requires.over;
    } in
    makes_leaf (v.layout.slots + 135) (length c.args.holds.now + 1) c.args.key c.args.pointers.now c.settle.new.holds
    c.args.place span c.args.at c.word_at.result
    c.in_ok-settled.settled v u w (let one = h.most in let two = k.most in omega (arith, one, two))
    (over_keys c.args.key c.args.low (c.args.low + 31) span same c.requires.over.from
    (let to = c.requires.over.to in omega (arith, to)))
    here h k found
