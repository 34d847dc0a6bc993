use Rattle.std.proofs.Common.{refl, arith, inl, inr}
use Rattle.std.proofs.lemmas.Bool.{false≢true}
use Rattle.recovery_core.proofs.GatherTreeLaws.{inner_right, leaf_right, leaf_numbers, leaf_few}
use Rattle.recovery_core.proofs.gather_tree.is_tree_page.Goals as goal

pub returns-then-has_kind : goal.returns-then-has_kind
returns-then-has_kind c id = (
  λ t. inner_right c.args.epoch id c.args.place c.args.words.now (omega (arith, c.requires.first))
      (c.if-has_kind.ensures.0 refl),
  λ right. refl,
)

pub returns-then-not-has_kind : goal.returns-then-not-has_kind
returns-then-not-has_kind c id = (
  λ t. absurd (false≢true t),
  λ right. absurd (elim (right.page.page (omega (arith, c.requires.first))) [
    | inl leaf ↦ false≢true (c.if-not-has_kind.ensures.1 leaf)
    | inr inner ↦ false≢true (c.if-has_kind.ensures.1 inner)
  ]),
)

pub are_up_to-requires : goal.are_up_to-requires
are_up_to-requires c = leaf_few c.args.place c.args.words.now (c.if-not-has_kind.ensures.0 refl)

pub returns : goal.returns
returns c id = (
  λ t. leaf_right c.args.epoch id c.args.place c.args.words.now (omega (arith, c.requires.first))
      (c.if-not-has_kind.ensures.0 refl) (c.are_up_to.ensures.0 t),
  λ right. c.are_up_to.ensures.1
      (leaf_numbers c.args.epoch id c.args.place c.args.words.now (omega (arith, c.requires.first))
      (c.if-not-has_kind.ensures.0 refl) right),
)
