use Rattle.std.proofs.Common.{◌≡◌, ◌+◌, refl, ap, ◌∙◌, subst, arith}
use Rattle.wire_form.specs.Pages.{HasKind}
use Rattle.snapshot_store.specs.ArrayPages.{array_kind}
use Rattle.recovery_core.proofs.GatherArrayLaws.{inner_right, leaf_right, leaf_numbers, level_leaf}
use Rattle.recovery_core.proofs.gather_array.is_array_page.Goals as goal

pub returns-then-place-ge32 : goal.returns-then-place-ge32
returns-then-place-ge32 c id =
    let kind : HasKind (array_kind c.args.size c.args.place.low c.args.place.high) c.args.place.number
    c.args.words.now =
    subst (λ k. HasKind k c.args.place.number c.args.words.now)
    (c.kind_of-kind.ensures ∙ ap (λ size. array_kind size c.args.place.low c.args.place.high) c.from.ensures)
    (c.if-not-has_kind.ensures.0 refl) in (
      λ t. inner_right c.args.epoch id c.args.size c.args.place c.args.words.now
          (omega (arith, c.requires.first)) kind c.if-place-ge32.true,
      λ right. refl,
    )

pub returns : goal.returns
returns c id =
    let kind : HasKind (array_kind c.args.size c.args.place.low c.args.place.high) c.args.place.number
    c.args.words.now =
    subst (λ k. HasKind k c.args.place.number c.args.words.now)
    (c.kind_of-kind.ensures ∙ ap (λ size. array_kind size c.args.place.low c.args.place.high) c.from.ensures)
    (c.if-not-has_kind.ensures.0 refl) in
    let leaf : c.args.place.high
    ≡ c.args.place.low + 31 = level_leaf 3 c.args.place.low c.args.place.high c.requires.level
    (omega (arith, c.if-place-ge32.false)) in (
      λ t. leaf_right c.args.epoch id c.args.size c.args.place c.args.words.now
          (omega (arith, c.requires.first)) kind leaf (c.are_up_to.ensures.0 t),
      λ right. c.are_up_to.ensures.1
          (leaf_numbers c.args.epoch id c.args.size c.args.place c.args.words.now leaf right),
    )
