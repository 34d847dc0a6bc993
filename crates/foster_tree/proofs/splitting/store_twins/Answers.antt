use Rattle.std.proofs.Common.{arith}
use Rattle.foster_tree.proofs.StoreLaws.{spare_split}
use Rattle.foster_tree.proofs.splitting.store_twins.Goals as goal

pub store_word-requires-clause-can : goal.store_word-requires-clause-can
store_word-requires-clause-can c = (16, c.requires.can, spare_split 16 3 (omega arith) (omega arith))

pub store_word-requires-2-clause-can : goal.store_word-requires-2-clause-can
store_word-requires-2-clause-can c =
    (16, c.store_word.ensures.can 16 c.requires.can, spare_split 16 4 (omega arith) (omega arith))

pub store_word-requires-3-clause-can : goal.store_word-requires-3-clause-can
store_word-requires-3-clause-can c = (
  16,
  c.store_word-2.ensures.can 16 (c.store_word.ensures.can 16 c.requires.can),
  spare_split 16 5 (omega arith) (omega arith),
)
