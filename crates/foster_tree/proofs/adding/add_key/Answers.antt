use Rattle.std.proofs.Common.{◌≡◌, ◌<◌, ◌+◌, sym, ap, ◌∙◌, subst, refl}
use Rattle.engine_pages.specs.declared.layout.Layout.{Layout}
use Rattle.engine_pages.specs.declared.view.RefusalCause.{RefusalCause}
use Rattle.engine_pages.specs.Layout.{page_at}
use Rattle.engine_pages.specs.Passes.{view}
use Rattle.foster_tree.specs.Adding.{RefusesAdd}
use Rattle.foster_tree.proofs.AddLaws.{can_add, counted, header_changed, key_is_put, was_changed, was_locked}
use Rattle.foster_tree.proofs.adding.add_key.Goals as goal

pub word_at-at-requires-clause-slot : goal.word_at-at-requires-clause-slot
word_at-at-requires-clause-slot c =
    subst (λ (l : Layout). c.args.slot < l.slots) c.requires.of.layout c.requires.can.grows.there

pub lock_header-seen-requires-clause-pass : goal.lock_header-seen-requires-clause-pass
lock_header-seen-requires-clause-pass c =
    c.requires.can.grows.active

pub lock_header-seen-requires-clause-slot : goal.lock_header-seen-requires-clause-slot
lock_header-seen-requires-clause-slot c =
    c.requires.can.grows.there

pub lock_header-seen-requires-clause-word : goal.lock_header-seen-requires-clause-word
lock_header-seen-requires-clause-word c =
    c.word_at-at.ensures ∙ ap (λ (l : Layout). page_at l.slots c.args.slot 0) (sym c.requires.of.layout)

pub lock_header-seen-requires-clause-page : goal.lock_header-seen-requires-clause-page
lock_header-seen-requires-clause-page c =
    c.requires.can.grows.page

pub lock_header-seen-requires-clause-expected : goal.lock_header-seen-requires-clause-expected
lock_header-seen-requires-clause-expected c =
    c.requires.can.grows.small

pub lock_header-seen-requires-clause-leaf : goal.lock_header-seen-requires-clause-leaf
lock_header-seen-requires-clause-leaf c =
    c.requires.can.grows.kind

pub returns-then-seen-word-clause-cause : goal.returns-then-seen-word-clause-cause
returns-then-seen-word-clause-cause c =
    let v = view c.args.pass.now in
    let u = view c.lock_header-seen.new.pass in
    let placed : c.word_at-at.result ≡ page_at v.layout.slots c.args.slot 0 =
    c.word_at-at.ensures ∙ ap (λ (l : Layout). page_at l.slots c.args.slot 0) (sym c.requires.of.layout) in
    let changed = was_changed c.args.slot c.word_at-at.result c.args.word c.lock_header-seen.result c.args.span v u
    c.lock_header-seen.ensures.locks c.if-seen-word.true in
    subst (λ (r : RefusalCause). RefusesAdd c.args.slot c.args.word r v u) (sym c.conflict.ensures) (
      refl,
      header_changed c.args.slot c.word_at-at.result c.args.word c.lock_header-seen.result c.args.span c.args.key v u
          c.requires.can.grows placed changed c.if-seen-word.true,
      changed,
    )

pub open_with_key-requires-clause-can : goal.open_with_key-requires-clause-can
open_with_key-requires-clause-can c =
    let v = view c.args.pass.now in
    let u = view c.lock_header-seen.new.pass in
    let b = view c.store_key-place.new.pass in
    let h = was_locked c.args.slot c.word_at-at.result c.args.word c.lock_header-seen.result c.args.span v u
    c.lock_header-seen.ensures.locks c.if-seen-word.false in
    can_add c.args.slot c.word_at-at.result c.args.word c.lock_header-seen.result c.count_of.result c.args.span c.args.key
    v u b c.requires.can.grows c.requires.can.few c.if-seen-word.false h
    (counted _ c.args.word h.are.few (sym c.if-seen-word.false ∙ h.word) ∙ sym c.count_of.ensures)
    c.store_key-place.ensures.stores

pub returns-clause-added : goal.returns-clause-added
returns-clause-added c =
    let v = view c.args.pass.now in
    let u = view c.lock_header-seen.new.pass in
    let b = view c.store_key-place.new.pass in
    let placed : c.word_at-at.result ≡ page_at v.layout.slots c.args.slot 0 =
    c.word_at-at.ensures ∙ ap (λ (l : Layout). page_at l.slots c.args.slot 0) (sym c.requires.of.layout) in
    let h = was_locked c.args.slot c.word_at-at.result c.args.word c.lock_header-seen.result c.args.span v u
    c.lock_header-seen.ensures.locks c.if-seen-word.false in
    key_is_put c.args.slot c.word_at-at.result c.args.word c.lock_header-seen.result c.count_of.result c.args.span
    c.args.key v u b c.requires.can.grows c.requires.can.few c.if-seen-word.false h
    (counted _ c.args.word h.are.few (sym c.if-seen-word.false ∙ h.word) ∙ sym c.count_of.ensures)
    c.store_key-place.ensures.stores c.store_key-place.result (view c.open_with_key.new.pass) placed
    c.store_key-place.ensures.place c.open_with_key.ensures.adds
