use Rattle.std.proofs.Common.{◌≡◌, ℕ, ◌+◌, ◌*◌, ◌^◌, ◌<◌, ◌≤◌, sym, ap, ◌∙◌, subst, inl, inr}
use Rattle.engine_pages.specs.declared.layout.Layout.{Layout}
use Rattle.engine_pages.specs.declared.view.View.{View}
use Rattle.engine_pages.specs.Layout.{page_at}
use Rattle.engine_pages.specs.Passes.{view}
use Rattle.engine_pages.specs.Slots.{entered}
use Rattle.foster_tree.specs.Adding.{restored, IsOneHead}
use Rattle.foster_tree.specs.Splitting.{separator_of, twin_words}
use Rattle.foster_tree.proofs.AfterTurn.{turned_half}
use Rattle.foster_tree.proofs.PlaceLaws.{new_there, ordered, place_high}
use Rattle.foster_tree.proofs.TurnLaws.{can_split, moved_is}
use Rattle.foster_tree.proofs.splitting.turn.Goals as goal
use Rattle.foster_tree.proofs.splitting.turn.Goals.{then-below, else-below, then-below-2, else-below-2}

pub place_of-place-requires : goal.place_of-place-requires
place_of-place-requires c =
    let can = c.requires.can.2 in record {
      has = new_there (view c.args.pass.now) c.args.slot c.args.span c.requires.can.0 c.args.key c.requires.can.1
          c.args.sorted.now can.moved can.order;
    }

pub overflow_sub-index : goal.overflow_sub-index
overflow_sub-index c =
    let can = c.requires.can.2 in
    place_high c.args.sorted.now c.place_of-place.result
    (ordered (view c.args.pass.now) c.args.slot c.args.span c.requires.can.0 c.args.key c.requires.can.1 c.args.sorted.now
    can.moved can.order)
    c.place_of-place.ensures.within
    (subst (λ (n : ℕ). separator_of c.args.sorted.now ≤ n) (sym c.place_of-place.ensures.is)
    (subst (λ (n : ℕ). n ≤ c.args.key.key) c.requires.separator c.if-below-2.false))

pub split_sorted-requires-clause-can : goal.split_sorted-requires-clause-can
split_sorted-requires-clause-can c =
    let v = view c.args.pass.now in
    let e = view c.enter.new.pass in
    let p = view c.store_twins.new.pass in
    let keys = c.requires.can.0 in
    let can = c.requires.can.2 in
    let one : IsOneHead e c.args.slot keys can.words =
    record { only = ap (λ (z : View). z.heads) c.enter.ensures.enters ∙ can.one.only; long = can.one.long } in
    let is : p ≡ restored c.args.slot keys
    (twin_words c.args.halves.minor c.args.halves.major (separator_of c.args.sorted.now) can.words) 3
    (entered c.if-below.half v) =
    c.store_twins.ensures.stores keys can.words one
    ∙ (ap (λ (n : ℕ). restored c.args.slot keys (twin_words c.args.halves.minor c.args.halves.major n can.words) 3 e)
    c.requires.separator
    ∙ ap (λ (z : View). restored c.args.slot keys
    (twin_words c.args.halves.minor c.args.halves.major (separator_of c.args.sorted.now) can.words) 3 z)
    c.enter.ensures.enters) in
    can_split c.args.slot c.if-below.half c.args.halves.minor c.args.halves.major c.args.span keys c.args.key
    c.requires.can.1 c.args.sorted.now v p can is (c.args.word + 2 ^ 62) (moved_is c.args.word c.requires.word)

pub returns-clause-turned : goal.returns-clause-turned
returns-clause-turned c =
    let v = view c.args.pass.now in
    let e = view c.enter.new.pass in
    let p = view c.store_twins.new.pass in
    let w = view c.split_sorted.new.pass in
    let keys = c.requires.can.0 in
    let can = c.requires.can.2 in
    let one : IsOneHead e c.args.slot keys can.words =
    record { only = ap (λ (z : View). z.heads) c.enter.ensures.enters ∙ can.one.only; long = can.one.long } in
    let is : p ≡ restored c.args.slot keys
    (twin_words c.args.halves.minor c.args.halves.major (separator_of c.args.sorted.now) can.words) 3
    (entered c.if-below.half v) =
    c.store_twins.ensures.stores keys can.words one
    ∙ (ap (λ (n : ℕ). restored c.args.slot keys (twin_words c.args.halves.minor c.args.halves.major n can.words) 3 e)
    c.requires.separator
    ∙ ap (λ (z : View). restored c.args.slot keys
    (twin_words c.args.halves.minor c.args.halves.major (separator_of c.args.sorted.now) can.words) 3 z)
    c.enter.ensures.enters) in
    turned_half c.args.slot c.args.halves.minor c.args.halves.major c.args.at (c.args.word + 2 ^ 62) c.if-below.half
    c.if-below-2.index c.place_of-place.result c.word_at.result c.args.span keys c.args.key c.requires.can.1
    c.args.sorted.now v p w c.args.holds.now c.note_hold.new.holds can c.place_of-place.ensures.within
    c.place_of-place.ensures.is is c.split_sorted.ensures.splits
    (c.word_at.ensures
    ∙ ap (λ (l : Layout). page_at l.slots c.if-below.half ((16 + 3 * c.if-below-2.index) + 1)) (sym c.requires.of.layout))
    c.note_hold.ensures c.requires.header
    (elim c.if-below.branch [
      | then-below w ↦
          inl (subst (λ (n : ℕ). c.args.key.key < n) c.requires.separator w.if-below.true, w.half-is)
      | else-below w ↦
          inr (subst (λ (n : ℕ). n ≤ c.args.key.key) c.requires.separator w.if-below.false, w.half-is)
    ])
    (elim c.if-below-2.branch [
      | then-below-2 w ↦
          inl (subst (λ (n : ℕ). c.args.key.key < n) c.requires.separator w.if-below-2.true, w.index-is)
      | else-below-2 w ↦
          inr (subst (λ (n : ℕ). n ≤ c.args.key.key) c.requires.separator w.if-below-2.false, w.index-is)
    ])
