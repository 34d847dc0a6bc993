use Rattle.std.proofs.Common.{refl, ◌<◌, arith}
use Rattle.wire_form.specs.Pages.{IsStored, stored_words, stored_id}
use Rattle.wire_form.proofs.ItemLemmas.{items_forth, items_back, and_then, refused}
use Rattle.wire_form.proofs.catalogue.has_stored.Goals as goal

pub returns-then-are_stored : goal.returns-then-are_stored
returns-then-are_stored c =
    and_then _ (c.if-are_stored.ensures.0 refl) c.are_zero.ensures
    (items_forth (IsStored c.args.number) stored_words stored_id ◌<◌ 3 (λ _. refl) c.args.count c.args.words.now _ _ c.requires.room c.split_at.ensures.front c.split_at.ensures.back)
    (items_back (IsStored c.args.number) stored_words stored_id ◌<◌ 3 (λ _. refl) (λ a b e. omega arith) c.args.count c.args.words.now _ _ c.requires.room c.split_at.ensures.front c.split_at.ensures.back)

pub returns-else-are_stored : goal.returns-else-are_stored
returns-else-are_stored c =
    rw c.if-are_stored.false (refused c.if-are_stored.ensures.1
    (λ p. (items_forth (IsStored c.args.number) stored_words stored_id ◌<◌ 3 (λ _. refl) c.args.count c.args.words.now _ _ c.requires.room c.split_at.ensures.front c.split_at.ensures.back p).0))
