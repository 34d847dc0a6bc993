use Rattle.std.proofs.Common.{refl}
use Rattle.wire_form.proofs.ItemLemmas.{and_then, refused}
use Rattle.wire_form.proofs.PageLemmas.{children_forth, children_back}
use Rattle.wire_form.proofs.inner.has_children.Goals as goal

pub returns-then-are_pointers : goal.returns-then-are_pointers
returns-then-are_pointers c =
    and_then _ (c.if-are_pointers.ensures.0 refl) c.are_separators.ensures
    (children_forth c.args.low c.args.high c.args.number c.args.count c.args.words.now _ _ c.requires.whole c.requires.most c.split_at.ensures.front c.split_at.ensures.back)
    (children_back c.args.low c.args.high c.args.number c.args.count c.args.words.now _ _ c.requires.whole c.requires.some c.split_at.ensures.front c.split_at.ensures.back)

pub returns-else-are_pointers : goal.returns-else-are_pointers
returns-else-are_pointers c =
    rw c.if-are_pointers.false (refused c.if-are_pointers.ensures.1
    (λ p. (children_forth c.args.low c.args.high c.args.number c.args.count c.args.words.now _ _ c.requires.whole c.requires.most c.split_at.ensures.front c.split_at.ensures.back p).0))
