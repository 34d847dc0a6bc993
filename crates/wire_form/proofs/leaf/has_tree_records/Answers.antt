use Rattle.std.proofs.Common.{refl, ◌<◌, arith}
use Rattle.wire_form.specs.Pages.{IsTreeRecord, tree_record_words, record_key}
use Rattle.wire_form.proofs.ItemLemmas.{items_forth, items_back, and_then, refused}
use Rattle.wire_form.proofs.leaf.has_tree_records.Goals as goal

pub returns-then-are_tree_records : goal.returns-then-are_tree_records
returns-then-are_tree_records c =
    and_then _ (c.if-are_tree_records.ensures.0 refl) c.are_zero.ensures
    (items_forth (IsTreeRecord c.args.low c.args.high) tree_record_words record_key ◌<◌ 3 (λ _. refl) c.args.count c.args.words.now _ _ c.requires.room c.split_at.ensures.front c.split_at.ensures.back)
    (items_back (IsTreeRecord c.args.low c.args.high) tree_record_words record_key ◌<◌ 3 (λ _. refl) (λ a b e. omega arith) c.args.count c.args.words.now _ _ c.requires.room c.split_at.ensures.front c.split_at.ensures.back)

pub returns-else-are_tree_records : goal.returns-else-are_tree_records
returns-else-are_tree_records c =
    rw c.if-are_tree_records.false (refused c.if-are_tree_records.ensures.1
    (λ p. (items_forth (IsTreeRecord c.args.low c.args.high) tree_record_words record_key ◌<◌ 3 (λ _. refl) c.args.count c.args.words.now _ _ c.requires.room c.split_at.ensures.front c.split_at.ensures.back p).0))
