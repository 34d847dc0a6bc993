use Rattle.std.proofs.Common.{◌≡◌, ◌<◌, ◌∙◌, arith, subst, sym}
use Rattle.homes.specs.declared.places.Span.{Span}
use Rattle.engine_pages.specs.declared.layout.Layout.{Layout}
use Rattle.engine_pages.specs.declared.view.KeptWhy.TheVariants.{Locked, Unlike, Under}
use Rattle.engine_pages.specs.Passes.{view}
use Rattle.snapshot_store.specs.Places.{page as page_words}
use Rattle.drop_core.specs.Table.{at_index}
use Rattle.pointer_swings.specs.Shuts.{CanShut}
use Rattle.page_drops.proofs.Dues.{inner_foreign}
use Rattle.page_drops.proofs.InnerFacts.{in_table, is_elsewhere, is_shut, is_under, pointer_word, wide}
use Rattle.page_drops.proofs.Inners.{can_shut, found_other, inner_went, keeps_inner, last_found, shut_now, shut_row_now}
use Rattle.page_drops.proofs.Inners.{shut_turned, turned_then}
use Rattle.page_drops.proofs.CompareFacts.{word_here}
use Rattle.page_drops.proofs.ShutNotes.{found_now, left_now}
use Rattle.page_drops.proofs.inner.shut_pointer.Goals as goal

pub part_of-span-requires-clause-wide : goal.part_of-span-requires-clause-wide
part_of-span-requires-clause-wide c = wide c.args.page.slot c.args.page.page c.args.page.span (view c.args.pass.now) c.requires.at

pub part_of-span-requires-clause-high : goal.part_of-span-requires-clause-high
part_of-span-requires-clause-high c = c.requires.at.high

pub word_at-at-requires-clause-slot : goal.word_at-at-requires-clause-slot
word_at-at-requires-clause-slot c = subst (λ (y : Layout). c.args.page.slot < y.slots) c.requires.of.layout c.requires.at.slot

pub shut-found-requires-clause-shut : goal.shut-found-requires-clause-shut
shut-found-requires-clause-shut c =
    let v = view c.args.pass.now in
    let u = view c.child_of-child.new.pass in
    let child = c.child_of-child.ensures.child in
    let same : c.from-expected.result ≡ c.child_of-child.result = omega arith in
    subst (λ (z : Span). CanShut u (at_index c.args.page.slot c.args.index) z c.word_at-at.result c.from-expected.result)
    (sym c.part_of-span.ensures)
    (can_shut c.args.page.slot c.args.page.page c.args.index c.word_at-at.result c.from-expected.result c.args.page.span u
    (inner_went c.args.page.slot c.args.page.page c.args.page.span v u child.went c.requires.at) c.requires.index
    (pointer_word c.args.engine.now c.args.pass.now u c.args.page.slot c.args.index c.word_at-at.result c.requires.of child.went
    c.word_at-at.ensures) (let small = child.small in omega (arith, same, small)))

pub shut-found-requires-clause-word : goal.shut-found-requires-clause-word
shut-found-requires-clause-word c =
    in_table c.args.engine.now c.args.pass.now (view c.child_of-child.new.pass) c.args.page.slot c.args.index c.word_at-at.result
    c.requires.of c.child_of-child.ensures.child.went c.requires.at.slot c.requires.index c.word_at-at.ensures

pub keep-locked-requires-clause-keeper : goal.keep-locked-requires-clause-keeper
keep-locked-requires-clause-keeper c =
    let v = view c.args.pass.now in
    let u = view c.child_of-child.new.pass in
    let w = view c.shut-found.new.pass in
    let child = c.child_of-child.ensures.child in
    let same : c.from-expected.result ≡ c.child_of-child.result = omega arith in
    let small = child.small in
    let high = c.if-found-ge-SHUT.true in
    let seen = found_other (at_index c.args.page.slot c.args.index) c.word_at-at.result c.from-expected.result c.shut-found.result
    v u w (record { went = child.went; kept = child.kept }) child.shuts (λ e. absurd (omega (arith, e, high, small, same))) c.shut-found.ensures.shuts in
    (inner_went c.args.page.slot c.args.page.page c.args.page.span v w seen.turned.went c.requires.at).keeper

pub keep-locked-requires-clause-last : goal.keep-locked-requires-clause-last
keep-locked-requires-clause-last c =
    let v = view c.args.pass.now in
    let u = view c.child_of-child.new.pass in
    let w = view c.shut-found.new.pass in
    let child = c.child_of-child.ensures.child in
    let same : c.from-expected.result ≡ c.child_of-child.result = omega arith in
    let small = child.small in
    let high = c.if-found-ge-SHUT.true in
    let seen = found_other (at_index c.args.page.slot c.args.index) c.word_at-at.result c.from-expected.result c.shut-found.result
    v u w (record { went = child.went; kept = child.kept }) child.shuts (λ e. absurd (omega (arith, e, high, small, same))) c.shut-found.ensures.shuts in
    last_found v w c.word_at-at.result c.shut-found.result Locked seen

pub keep-locked-requires-clause-due : goal.keep-locked-requires-clause-due
keep-locked-requires-clause-due c =
    let v = view c.args.pass.now in
    let u = view c.child_of-child.new.pass in
    let w = view c.shut-found.new.pass in
    let child = c.child_of-child.ensures.child in
    let same : c.from-expected.result ≡ c.child_of-child.result = omega arith in
    let small = child.small in
    let high = c.if-found-ge-SHUT.true in
    let seen = found_other (at_index c.args.page.slot c.args.index) c.word_at-at.result c.from-expected.result c.shut-found.result
    v u w (record { went = child.went; kept = child.kept }) child.shuts (λ e. absurd (omega (arith, e, high, small, same))) c.shut-found.ensures.shuts in
    let word = word_here c.args.engine.now c.args.pass.now c.args.page.slot c.args.index c.word_at-at.result c.requires.of
    c.word_at-at.ensures in
    inner_foreign c.args.page.slot c.args.page.page c.args.index c.word_at-at.result c.shut-found.result c.args.page.span
    (page_words v.pages c.args.page.page) v w c.requires.at seen c.requires.index word c.requires.row

pub returns-then-found-ge-SHUT-clause-keeps : goal.returns-then-found-ge-SHUT-clause-keeps
returns-then-found-ge-SHUT-clause-keeps c =
    let v = view c.args.pass.now in
    let u = view c.child_of-child.new.pass in
    let w = view c.shut-found.new.pass in
    let child = c.child_of-child.ensures.child in
    let same : c.from-expected.result ≡ c.child_of-child.result = omega arith in
    let small = child.small in
    let high = c.if-found-ge-SHUT.true in
    let seen = found_other (at_index c.args.page.slot c.args.index) c.word_at-at.result c.from-expected.result c.shut-found.result
    v u w (record { went = child.went; kept = child.kept }) child.shuts (λ e. absurd (omega (arith, e, high, small, same))) c.shut-found.ensures.shuts in
    let word = word_here c.args.engine.now c.args.pass.now c.args.page.slot c.args.index c.word_at-at.result c.requires.of
    c.word_at-at.ensures in
    keeps_inner c.args.page.slot c.args.page.page c.word_at-at.result c.shut-found.result Locked v w (view c.keep-locked.new.pass)
    c.keep-locked.result c.keep-locked.ensures.is seen c.keep-locked.ensures.notes
    (is_shut v.layout.slots c.args.page.slot c.args.index c.word_at-at.result c.shut-found.result (page_words v.pages c.args.page.page) c.requires.index word (omega (arith, high)))

pub keep-under-requires-clause-keeper : goal.keep-under-requires-clause-keeper
keep-under-requires-clause-keeper c =
    let v = view c.args.pass.now in
    let u = view c.child_of-child.new.pass in
    let w = view c.shut-found.new.pass in
    let child = c.child_of-child.ensures.child in
    let same : c.from-expected.result ≡ c.child_of-child.result = omega arith in
    let small = child.small in
    let high = c.if-found-ge-SLOT.true in let low = c.if-found-ge-SHUT.false in
    let seen = found_other (at_index c.args.page.slot c.args.index) c.word_at-at.result c.from-expected.result c.shut-found.result
    v u w (record { went = child.went; kept = child.kept }) child.shuts (λ e. absurd (omega (arith, e, high, small, same))) c.shut-found.ensures.shuts in
    (inner_went c.args.page.slot c.args.page.page c.args.page.span v w seen.turned.went c.requires.at).keeper

pub keep-under-requires-clause-last : goal.keep-under-requires-clause-last
keep-under-requires-clause-last c =
    let v = view c.args.pass.now in
    let u = view c.child_of-child.new.pass in
    let w = view c.shut-found.new.pass in
    let child = c.child_of-child.ensures.child in
    let same : c.from-expected.result ≡ c.child_of-child.result = omega arith in
    let small = child.small in
    let high = c.if-found-ge-SLOT.true in let low = c.if-found-ge-SHUT.false in
    let seen = found_other (at_index c.args.page.slot c.args.index) c.word_at-at.result c.from-expected.result c.shut-found.result
    v u w (record { went = child.went; kept = child.kept }) child.shuts (λ e. absurd (omega (arith, e, high, small, same))) c.shut-found.ensures.shuts in
    last_found v w c.word_at-at.result c.shut-found.result Under seen

pub returns-then-found-ge-SLOT-clause-keeps : goal.returns-then-found-ge-SLOT-clause-keeps
returns-then-found-ge-SLOT-clause-keeps c =
    let v = view c.args.pass.now in
    let u = view c.child_of-child.new.pass in
    let w = view c.shut-found.new.pass in
    let child = c.child_of-child.ensures.child in
    let same : c.from-expected.result ≡ c.child_of-child.result = omega arith in
    let small = child.small in
    let high = c.if-found-ge-SLOT.true in let low = c.if-found-ge-SHUT.false in
    let seen = found_other (at_index c.args.page.slot c.args.index) c.word_at-at.result c.from-expected.result c.shut-found.result
    v u w (record { went = child.went; kept = child.kept }) child.shuts (λ e. absurd (omega (arith, e, high, small, same))) c.shut-found.ensures.shuts in
    let word = word_here c.args.engine.now c.args.pass.now c.args.page.slot c.args.index c.word_at-at.result c.requires.of
    c.word_at-at.ensures in
    keeps_inner c.args.page.slot c.args.page.page c.word_at-at.result c.shut-found.result Under v w (view c.keep-under.new.pass)
    c.keep-under.result c.keep-under.ensures.is seen c.keep-under.ensures.notes
    (is_under v.layout.slots c.args.page.slot c.args.index c.word_at-at.result c.shut-found.result (page_words v.pages c.args.page.page) c.requires.index word (omega (arith, high)) (omega (arith, low)))

pub keep-other-requires-clause-keeper : goal.keep-other-requires-clause-keeper
keep-other-requires-clause-keeper c =
    let v = view c.args.pass.now in
    let u = view c.child_of-child.new.pass in
    let w = view c.shut-found.new.pass in
    let child = c.child_of-child.ensures.child in
    let same : c.from-expected.result ≡ c.child_of-child.result = omega arith in
    let small = child.small in
    let low = c.if-found-ge-SLOT.false in let other = c.if-found-expected.true in
    let seen = found_other (at_index c.args.page.slot c.args.index) c.word_at-at.result c.from-expected.result c.shut-found.result
    v u w (record { went = child.went; kept = child.kept }) child.shuts other c.shut-found.ensures.shuts in
    (inner_went c.args.page.slot c.args.page.page c.args.page.span v w seen.turned.went c.requires.at).keeper

pub keep-other-requires-clause-last : goal.keep-other-requires-clause-last
keep-other-requires-clause-last c =
    let v = view c.args.pass.now in
    let u = view c.child_of-child.new.pass in
    let w = view c.shut-found.new.pass in
    let child = c.child_of-child.ensures.child in
    let same : c.from-expected.result ≡ c.child_of-child.result = omega arith in
    let small = child.small in
    let low = c.if-found-ge-SLOT.false in let other = c.if-found-expected.true in
    let seen = found_other (at_index c.args.page.slot c.args.index) c.word_at-at.result c.from-expected.result c.shut-found.result
    v u w (record { went = child.went; kept = child.kept }) child.shuts other c.shut-found.ensures.shuts in
    last_found v w c.word_at-at.result c.shut-found.result Unlike seen

pub returns-then-found-expected-clause-keeps : goal.returns-then-found-expected-clause-keeps
returns-then-found-expected-clause-keeps c =
    let v = view c.args.pass.now in
    let u = view c.child_of-child.new.pass in
    let w = view c.shut-found.new.pass in
    let child = c.child_of-child.ensures.child in
    let same : c.from-expected.result ≡ c.child_of-child.result = omega arith in
    let small = child.small in
    let low = c.if-found-ge-SLOT.false in let other = c.if-found-expected.true in
    let seen = found_other (at_index c.args.page.slot c.args.index) c.word_at-at.result c.from-expected.result c.shut-found.result
    v u w (record { went = child.went; kept = child.kept }) child.shuts other c.shut-found.ensures.shuts in
    let word = word_here c.args.engine.now c.args.pass.now c.args.page.slot c.args.index c.word_at-at.result c.requires.of
    c.word_at-at.ensures in
    keeps_inner c.args.page.slot c.args.page.page c.word_at-at.result c.shut-found.result Unlike v w (view c.keep-other.new.pass)
    c.keep-other.result c.keep-other.ensures.is seen c.keep-other.ensures.notes
    (is_elsewhere v.layout.slots c.args.page.slot c.args.index c.word_at-at.result c.shut-found.result c.from-expected.result (page_words v.pages c.args.page.page) c.requires.index word (omega (arith, low)) (same ∙ child.is) other)

pub returns-clause-turns : goal.returns-clause-turns
returns-clause-turns c =
    let v = view c.args.pass.now in
    let u = view c.child_of-child.new.pass in
    let child = c.child_of-child.ensures.child in
    let same : c.from-expected.result ≡ c.child_of-child.result = omega arith in
    turned_then v u (view c.shut-found.new.pass) (record { went = child.went; kept = child.kept })
    (shut_turned (at_index c.args.page.slot c.args.index) c.word_at-at.result c.shut-found.result u (view c.shut-found.new.pass)
    (shut_now (at_index c.args.page.slot c.args.index) c.word_at-at.result c.from-expected.result c.shut-found.result u
    (view c.shut-found.new.pass) c.if-found-expected.false c.shut-found.ensures.shuts))

pub returns-clause-row : goal.returns-clause-row
returns-clause-row c =
    let v = view c.args.pass.now in
    let u = view c.child_of-child.new.pass in
    let child = c.child_of-child.ensures.child in
    let same : c.from-expected.result ≡ c.child_of-child.result = omega arith in
    shut_row_now c.args.page.slot c.args.index c.word_at-at.result c.from-expected.result c.shut-found.result
    (page_words v.pages c.args.page.page) u (view c.shut-found.new.pass)
    (shut_now (at_index c.args.page.slot c.args.index) c.word_at-at.result c.from-expected.result c.shut-found.result u
    (view c.shut-found.new.pass) c.if-found-expected.false c.shut-found.ensures.shuts) c.if-found-expected.false (same ∙ child.is)
    (child.shuts ∙ c.requires.row)

pub returns-clause-few : goal.returns-clause-few
returns-clause-few c =
    let is = c.child_of-child.ensures.child.is in let small = c.child_of-child.ensures.child.small in omega (arith, is, small)

pub returns-then-found-ge-SHUT-clause-found : goal.returns-then-found-ge-SHUT-clause-found
returns-then-found-ge-SHUT-clause-found c =
    let child = c.child_of-child.ensures.child in
    let same : c.from-expected.result ≡ c.child_of-child.result = omega arith in
    let small = child.small in
    let high = c.if-found-ge-SHUT.true in
    found_now (at_index c.args.page.slot c.args.index) c.args.page.slot c.args.index c.word_at-at.result c.from-expected.result
    c.shut-found.result Locked (view c.args.pass.now) (view c.child_of-child.new.pass) (view c.shut-found.new.pass)
    (view c.keep-locked.new.pass) c.keep-locked.result c.keep-locked.ensures.is child.reads
    (word_here c.args.engine.now c.args.pass.now c.args.page.slot c.args.index c.word_at-at.result c.requires.of
    c.word_at-at.ensures) (λ e. absurd (omega (arith, e, high, small, same))) c.shut-found.ensures.shuts c.keep-locked.ensures.notes

pub returns-then-found-ge-SLOT-clause-found : goal.returns-then-found-ge-SLOT-clause-found
returns-then-found-ge-SLOT-clause-found c =
    let child = c.child_of-child.ensures.child in
    let same : c.from-expected.result ≡ c.child_of-child.result = omega arith in
    let small = child.small in
    let high = c.if-found-ge-SLOT.true in
    found_now (at_index c.args.page.slot c.args.index) c.args.page.slot c.args.index c.word_at-at.result c.from-expected.result
    c.shut-found.result Under (view c.args.pass.now) (view c.child_of-child.new.pass) (view c.shut-found.new.pass)
    (view c.keep-under.new.pass) c.keep-under.result c.keep-under.ensures.is child.reads
    (word_here c.args.engine.now c.args.pass.now c.args.page.slot c.args.index c.word_at-at.result c.requires.of
    c.word_at-at.ensures) (λ e. absurd (omega (arith, e, high, small, same))) c.shut-found.ensures.shuts c.keep-under.ensures.notes

pub returns-then-found-expected-clause-found : goal.returns-then-found-expected-clause-found
returns-then-found-expected-clause-found c =
    let child = c.child_of-child.ensures.child in
    let same : c.from-expected.result ≡ c.child_of-child.result = omega arith in
    found_now (at_index c.args.page.slot c.args.index) c.args.page.slot c.args.index c.word_at-at.result c.from-expected.result
    c.shut-found.result Unlike (view c.args.pass.now) (view c.child_of-child.new.pass) (view c.shut-found.new.pass)
    (view c.keep-other.new.pass) c.keep-other.result c.keep-other.ensures.is child.reads
    (word_here c.args.engine.now c.args.pass.now c.args.page.slot c.args.index c.word_at-at.result c.requires.of
    c.word_at-at.ensures) c.if-found-expected.true c.shut-found.ensures.shuts c.keep-other.ensures.notes

pub returns-clause-left : goal.returns-clause-left
returns-clause-left c =
    let v = view c.args.pass.now in
    let u = view c.child_of-child.new.pass in
    let w = view c.shut-found.new.pass in
    let child = c.child_of-child.ensures.child in
    let same : c.from-expected.result ≡ c.child_of-child.result = omega arith in
    left_now (at_index c.args.page.slot c.args.index) c.args.page.slot c.args.page.page c.args.index c.word_at-at.result
    c.from-expected.result c.shut-found.result v u w
    (shut_now (at_index c.args.page.slot c.args.index) c.word_at-at.result c.from-expected.result c.shut-found.result u w
    c.if-found-expected.false c.shut-found.ensures.shuts) child.reads
    (word_here c.args.engine.now c.args.pass.now c.args.page.slot c.args.index c.word_at-at.result c.requires.of
    c.word_at-at.ensures) c.if-found-expected.false (same ∙ child.is)
