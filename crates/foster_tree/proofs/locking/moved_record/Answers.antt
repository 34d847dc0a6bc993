use Rattle.std.proofs.Common.{◌≡◌, ◌+◌, ◌*◌, refl, sym, ap, ◌∙◌, subst, arith}
use Rattle.std.specs.Prelude.{Contains}
use Rattle.serial_model.specs.declared.key.Key.{Key}
use Rattle.engine_pages.specs.declared.layout.Layout.{Layout}
use Rattle.engine_pages.specs.declared.view.View.{View}
use Rattle.engine_pages.specs.Layout.{page_at}
use Rattle.engine_pages.specs.Passes.{view}
use Rattle.foster_tree.proofs.LockOne.{loaded_at, loaded_knows, record_place}
use Rattle.foster_tree.proofs.RefuseLaws.{refused_one}
use Rattle.foster_tree.proofs.locking.moved_record.Goals as goal

pub meet_moved-requires-clause-place : goal.meet_moved-requires-clause-place
meet_moved-requires-clause-place c =
    let v = view c.args.pass.now in
    let u = view c.load_word-number.new.pass in
    let n = c.load_word-number.result in
    let key : Key = record { storage = c.args.span.storage; key = n } in
    let keys = c.requires.can.0 in
    let loaded = c.load_word-number.ensures.loads in
    let placed : c.word_at-place.result ≡ page_at v.layout.slots c.args.slot (16 + 3 * c.args.index) =
    c.word_at-place.ensures
    ∙ ap (λ (l : Layout). page_at l.slots c.args.slot (16 + 3 * c.args.index)) (sym c.requires.of.layout) in
    let behind : c.word_at-place.result + 1 ≡ page_at v.layout.slots c.args.slot ((16 + 3 * c.args.index) + 1) =
    omega (arith, placed) in
    record_place c.args.slot c.args.index (c.word_at-place.result + 1) c.args.span keys key u
    (loaded_knows c.args.slot c.args.index c.word_at-place.result n c.args.span keys v u c.requires.can.1 loaded)
    c.requires.index
    (loaded_at c.args.slot c.args.index c.word_at-place.result n c.args.span keys v u c.requires.can.1 c.requires.index
    loaded)
    refl
    (behind ∙ ap (λ (z : View). page_at z.layout.slots c.args.slot ((16 + 3 * c.args.index) + 1)) (sym loaded.is))

pub meet_moved-requires-clause-moved : goal.meet_moved-requires-clause-moved
meet_moved-requires-clause-moved c = (
  c.requires.moved.0,
  subst (λ (z : View). Contains z.moved c.requires.moved.0) (sym (c.load_word-number.ensures.loads).is) c.requires.moved.1,
  c.requires.moved.2,
)

pub returns-clause-missed : goal.returns-clause-missed
returns-clause-missed c =
    let v = view c.args.pass.now in
    let u = view c.load_word-number.new.pass in
    let n = c.load_word-number.result in
    let placed : c.word_at-place.result ≡ page_at v.layout.slots c.args.slot (16 + 3 * c.args.index) =
    c.word_at-place.ensures
    ∙ ap (λ (l : Layout). page_at l.slots c.args.slot (16 + 3 * c.args.index)) (sym c.requires.of.layout) in
    let behind : c.word_at-place.result + 1 ≡ page_at v.layout.slots c.args.slot ((16 + 3 * c.args.index) + 1) =
    omega (arith, placed) in
    refused_one c.args.slot c.args.index c.word_at-place.result n (c.word_at-place.result + 1) c.args.span
    c.requires.can.0 c.meet_moved.result v u (view c.meet_moved.new.pass) c.requires.can.1 c.requires.index behind
    (c.load_word-number.ensures.loads).is c.meet_moved.ensures.missed
