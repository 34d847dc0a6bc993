use Rattle.std.proofs.Common.{◌≡◌, ◌+◌, ◌*◌, ◌<◌, refl, sym, ap, ◌∙◌, subst, arith}
use Rattle.std.proofs.lemmas.Result.{err_from_is_err_and}
use Rattle.serial_model.specs.declared.key.Key.{Key}
use Rattle.engine_pages.specs.declared.layout.Layout.{Layout}
use Rattle.engine_pages.specs.declared.view.View.{View}
use Rattle.engine_pages.specs.Layout.{page_at}
use Rattle.engine_pages.specs.Passes.{view}
use Rattle.engine_pages.specs.Words.{spot}
use Rattle.foster_tree.specs.Locking.{HasLockedWord, HeldValue}
use Rattle.foster_tree.proofs.LockOne.{key_said, loaded_at, loaded_knows, locked_knows, locked_one, locked_took, record_place}
use Rattle.foster_tree.proofs.RefuseLaws.{refused_one}
use Rattle.foster_tree.proofs.locking.lock_one.Goals as goal

pub lock_word-requires-clause-place : goal.lock_word-requires-clause-place
lock_word-requires-clause-place c =
    let v = view c.args.pass.now in
    let u = view c.load_word-number.new.pass in
    let n = c.load_word-number.result in
    let key : Key = record { storage = c.args.span.storage; key = n } in
    let keys = c.requires.can.0 in
    let loaded = c.load_word-number.ensures.loads in
    let placed : c.word_at-place.result ≡ page_at v.layout.slots c.args.slot (16 + 3 * c.args.index) =
    c.word_at-place.ensures
    ∙ ap (λ (l : Layout). page_at l.slots c.args.slot (16 + 3 * c.args.index)) (sym c.requires.of.layout) in
    let behind : c.word_at-place.result + 1 ≡ page_at v.layout.slots c.args.slot ((16 + 3 * c.args.index) + 1) =
    omega (arith, placed) in
    record_place c.args.slot c.args.index (c.word_at-place.result + 1) c.args.span keys key u
    (loaded_knows c.args.slot c.args.index c.word_at-place.result n c.args.span keys v u c.requires.can.1 loaded)
    c.requires.index
    (loaded_at c.args.slot c.args.index c.word_at-place.result n c.args.span keys v u c.requires.can.1 c.requires.index
    loaded)
    refl
    (behind ∙ ap (λ (z : View). page_at z.layout.slots c.args.slot ((16 + 3 * c.args.index) + 1)) (sym loaded.is))

pub returns-in_err-word-clause-missed : goal.returns-in_err-word-clause-missed
returns-in_err-word-clause-missed c =
    let v = view c.args.pass.now in
    let u = view c.load_word-number.new.pass in
    let n = c.load_word-number.result in
    let placed : c.word_at-place.result ≡ page_at v.layout.slots c.args.slot (16 + 3 * c.args.index) =
    c.word_at-place.ensures
    ∙ ap (λ (l : Layout). page_at l.slots c.args.slot (16 + 3 * c.args.index)) (sym c.requires.of.layout) in
    let behind : c.word_at-place.result + 1 ≡ page_at v.layout.slots c.args.slot ((16 + 3 * c.args.index) + 1) =
    omega (arith, placed) in
    let p = err_from_is_err_and c.from_residual.result c.from_residual.ensures.1 in
    rw (p.1, p.2)
    (refused_one c.args.slot c.args.index c.word_at-place.result n (c.word_at-place.result + 1) c.args.span
    c.requires.can.0 c.in_err-word.field-0.0 v u (view c.lock_word.new.pass) c.requires.can.1 c.requires.index behind
    (c.load_word-number.ensures.loads).is c.in_err-word.ensures.missed)

pub held_value-value-requires-clause-place : goal.held_value-value-requires-clause-place
held_value-value-requires-clause-place c =
    let v = view c.args.pass.now in
    let u = view c.load_word-number.new.pass in
    let x = view c.lock_word.new.pass in
    let n = c.load_word-number.result in
    let key : Key = record { storage = c.args.span.storage; key = n } in
    let keys = c.requires.can.0 in
    let loaded = c.load_word-number.ensures.loads in
    let lock = c.in_ok-word.ensures.locked in
    let placed : c.word_at-place.result ≡ page_at v.layout.slots c.args.slot (16 + 3 * c.args.index) =
    c.word_at-place.ensures
    ∙ ap (λ (l : Layout). page_at l.slots c.args.slot (16 + 3 * c.args.index)) (sym c.requires.of.layout) in
    let behind : c.word_at-place.result + 1 ≡ page_at v.layout.slots c.args.slot ((16 + 3 * c.args.index) + 1) =
    omega (arith, placed) in
    record_place c.args.slot c.args.index (c.word_at-place.result + 1) c.args.span keys key x
    (locked_knows c.args.slot (c.word_at-place.result + 1) c.in_ok-word.word c.args.span keys key
    (spot c.args.slot c.args.index) u x
    (loaded_knows c.args.slot c.args.index c.word_at-place.result n c.args.span keys v u c.requires.can.1 loaded) lock)
    c.requires.index
    (loaded_at c.args.slot c.args.index c.word_at-place.result n c.args.span keys v u c.requires.can.1 c.requires.index
    loaded)
    refl
    (behind
    ∙ (ap (λ (z : View). page_at z.layout.slots c.args.slot ((16 + 3 * c.args.index) + 1)) (sym loaded.is)
    ∙ ap (λ (z : View). page_at z.layout.slots c.args.slot ((16 + 3 * c.args.index) + 1)) (sym lock.is)))

pub held_value-value-requires-clause-took : goal.held_value-value-requires-clause-took
held_value-value-requires-clause-took c =
    let key : Key = record { storage = c.args.span.storage; key = c.load_word-number.result } in
    locked_took (c.word_at-place.result + 1) c.in_ok-word.word key (spot c.args.slot c.args.index)
    (view c.load_word-number.new.pass) (view c.lock_word.new.pass) c.in_ok-word.ensures.locked

pub returns-clause-locked : goal.returns-clause-locked
returns-clause-locked c keys k knows at =
    let v = view c.args.pass.now in
    let u = view c.load_word-number.new.pass in
    let x = view c.lock_word.new.pass in
    let w = view c.held_value-value.new.pass in
    let n = c.load_word-number.result in
    let loaded = c.load_word-number.ensures.loads in
    let placed : c.word_at-place.result ≡ page_at v.layout.slots c.args.slot (16 + 3 * c.args.index) =
    c.word_at-place.ensures
    ∙ ap (λ (l : Layout). page_at l.slots c.args.slot (16 + 3 * c.args.index)) (sym c.requires.of.layout) in
    let same = key_said c.args.slot c.args.index c.word_at-place.result n c.args.span keys k v u knows at loaded in
    locked_one c.args.slot c.args.index c.word_at-place.result n c.in_ok-word.word c.args.span keys k v u x knows
    c.requires.index at placed loaded
    (subst (λ (q : Key). HasLockedWord q (spot c.args.slot c.args.index) (c.word_at-place.result + 1) c.in_ok-word.word u x)
    same c.in_ok-word.ensures.locked)
    w c.held_value-value.result
    (subst (λ (q : Key). HeldValue q (c.word_at-place.result + 1) c.in_ok-word.word c.held_value-value.result x w) same
    c.held_value-value.ensures.held)
