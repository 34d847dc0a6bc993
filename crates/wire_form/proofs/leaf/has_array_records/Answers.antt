use Rattle.std.proofs.Common.{refl, arith}
use Rattle.wire_form.specs.Items.{AnyOrder}
use Rattle.wire_form.specs.Pages.{IsArrayRecord, array_record_words}
use Rattle.wire_form.proofs.ItemLemmas.{items_forth, items_back, and_then, refused}
use Rattle.wire_form.proofs.leaf.has_array_records.Goals as goal
use Rattle.wire_form.specs.Parts.{itself}

pub returns-then-are_array_records : goal.returns-then-are_array_records
returns-then-are_array_records c =
    and_then _ (c.if-are_array_records.ensures.0 refl) c.are_zero.ensures
    (items_forth IsArrayRecord array_record_words itself AnyOrder 2 (λ _. refl) c.args.count c.args.words.now _ _ c.requires.room c.split_at.ensures.front c.split_at.ensures.back)
    (items_back IsArrayRecord array_record_words itself AnyOrder 2 (λ _. refl) (λ a b e. omega arith) c.args.count c.args.words.now _ _ c.requires.room c.split_at.ensures.front c.split_at.ensures.back)

pub returns-else-are_array_records : goal.returns-else-are_array_records
returns-else-are_array_records c =
    rw c.if-are_array_records.false (refused c.if-are_array_records.ensures.1
    (λ p. (items_forth IsArrayRecord array_record_words itself AnyOrder 2 (λ _. refl) c.args.count c.args.words.now _ _ c.requires.room c.split_at.ensures.front c.split_at.ensures.back p).0))
