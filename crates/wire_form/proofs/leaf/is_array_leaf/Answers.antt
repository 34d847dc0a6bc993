use Rattle.wire_form.proofs.ItemLemmas.{instead}
use Rattle.wire_form.proofs.PageLemmas.{array_leaf_forth, array_leaf_back}
use Rattle.wire_form.proofs.leaf.is_array_leaf.Goals as goal

pub returns : goal.returns
returns c =
    instead _ c.has_array_records.ensures (array_leaf_forth c.args.used c.args.words.now c.told-words) (array_leaf_back c.args.used c.args.words.now c.told-words c.if-used-lt1.false c.if-used-gt32.false)
